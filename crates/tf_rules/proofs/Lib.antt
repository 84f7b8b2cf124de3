mod TriviaLemmas
mod UnbrokenLemmas
mod SnakeCaseLemmas
