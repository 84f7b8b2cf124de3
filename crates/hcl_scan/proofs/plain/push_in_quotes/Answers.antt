use Rattle.hcl_scan.specs.Inner.Openings.{modes_of, places_of}
use Rattle.hcl_scan.proofs.plain.push_in_quotes.Goals as goal

pub next_quoted_token-next-requires-clause-within : goal.next_quoted_token-next-requires-clause-within
next_quoted_token-next-requires-clause-within c =
    let openings = c.args.openings.now.items in
    let step = rw c.as_bytes.ensures.value at c.put_quoted-at.ensures.state in
    (step (modes_of openings) (places_of openings) c.requires.mode c.requires.state).within

pub next_quoted_token-next-requires-clause-utf8 : goal.next_quoted_token-next-requires-clause-utf8
next_quoted_token-next-requires-clause-utf8 c =
    let openings = c.args.openings.now.items in
    let step = rw c.as_bytes.ensures.value at c.put_quoted-at.ensures.state in
    (step (modes_of openings) (places_of openings) c.requires.mode c.requires.state).utf8

pub returns-clause-state : goal.returns-clause-state
returns-clause-state c =
    let openings = c.args.openings.now.items in
    let step = rw c.as_bytes.ensures.value at c.put_quoted-at.ensures.state in
    step (modes_of openings) (places_of openings) c.requires.mode c.requires.state
