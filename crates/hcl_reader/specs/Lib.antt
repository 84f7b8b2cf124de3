pub mod ReaderRules
