use Rattle.hcl_text_laws.proofs.OneParse.{regapped}
use Rattle.hcl_text_laws.proofs.laws.other_gaps_parse.Goals as goal

pub returns : goal.returns
returns c = regapped c.tokenization_follows_modes.ensures c.other_gaps.ensures c.writes_back.ensures
