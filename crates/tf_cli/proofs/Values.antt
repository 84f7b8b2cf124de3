-- The values of an option, or of FILE, as clap's matches have them.
use Rattle.std.proofs.Common.{◌≡◌, ℕ, List, [], Option, Some, None, Result, Ok, Err, unwrap_or, ap}
use Rattle.std.specs.Str.Parse.{ParsesUnsigned}
use Rattle.clap.specs.Words.{ReadsOne}
use Rattle.tf_cli.specs.Tasks.{IsNumber}

pub given_values : (values : List (List ℕ)) (found : Option (List (List ℕ))) → Some values ≡ found → values ≡ unwrap_or found []
given_values values found is = ap (λ (o : Option (List (List ℕ))). unwrap_or o []) is

pub missing_values : (found : Option (List (List ℕ))) → None ≡ found → [] ≡ unwrap_or found []
missing_values found is = ap (λ (o : Option (List (List ℕ))). unwrap_or o []) is

-- a number that is read as one of 32 bits
pub number_read : (E : Type 0) (Gives : List ℕ → Result ℕ E → Type 0) → ((text : List ℕ) (r : Result ℕ E) → Gives text r → ParsesUnsigned 32 10 text r)
    → (text : List ℕ) (number : Option ℕ) → ReadsOne Gives text number → IsNumber text number
number_read E Gives parses text None reads = parses text (Err reads.0) reads.1
number_read E Gives parses text (Some number) reads = parses text (Ok number) reads
