use Rattle.hcl_layout.proofs.GapsLemmas.SplitLaw.{pairs_of_text}
use Rattle.hcl_layout.proofs.gaps.laws.lines_have_all_tokens.Goals as goal

pub returns : goal.returns
returns c = pairs_of_text
