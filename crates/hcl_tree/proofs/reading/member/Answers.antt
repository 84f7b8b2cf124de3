use Rattle.hcl_tree.proofs.reading.member.Goals as goal

pub returns-clause-derived : goal.returns-clause-derived
returns-clause-derived c =
    let here = c.args.reader.now in
    c.member_parser_is_exact.ensures here.tokens here.depth c.args.at.now c.next_member.result c.next_member.new.at c.next_member.ensures
