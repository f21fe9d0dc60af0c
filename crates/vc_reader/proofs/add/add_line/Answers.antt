use Rattle.std.proofs.Common.{sym, subst, refl, inl, inr, map}
use Rattle.vc_model.specs.Lists.{In}
use Rattle.vc_reader.specs.Building.{IsAdded, entry_weights, line_weights}
use Rattle.vc_lex.specs.Views.{seen}
use Rattle.vc_lines.specs.Grammar.{entries_of, name_of}
use Rattle.vc_reader.specs.Meaning.{given_by, given_by_entries, number_of}
use Rattle.vc_lines.specs.Names.{line_names}
use Rattle.vc_lines.specs.Views.{line_seen}
use Rattle.vc_reader.proofs.add.add_line.Goals as goal

pub number-requires-clause-named : goal.number-requires-clause-named
number-requires-clause-named g c = c.requires.named _ (subst (λ l. In (name_of (seen c.in-Initial.state)) (line_names (line_seen l))) (sym c.in-Initial.is) (inl refl))

pub number-requires-in-Final-clause-named : goal.number-requires-in-Final-clause-named
number-requires-in-Final-clause-named g c = c.requires.named _ (subst (λ l. In (name_of (seen c.in-Final.state)) (line_names (line_seen l))) (sym c.in-Final.is) (inl refl))

pub number-from-requires-clause-named : goal.number-from-requires-clause-named
number-from-requires-clause-named g c = c.requires.named _ (subst (λ l. In (name_of (seen c.in-Moves.from)) (line_names (line_seen l))) (sym c.in-Moves.is) (inl refl))

pub number-to-requires-clause-named : goal.number-to-requires-clause-named
number-to-requires-clause-named g c = c.requires.named _ (subst (λ l. In (name_of (seen c.in-Moves.to)) (line_names (line_seen l))) (sym c.in-Moves.is) (inr (inl refl)))

pub returns-in-Moves-clause-answer : goal.returns-in-Moves-clause-answer
returns-in-Moves-clause-answer g c =
    let R = g.S.Semiring.set in
    let spelled = g.S.Semiring.spelled in
    let fit = g.S.Semiring.numbers_fit in
    let sets = g.L.LabelSet.sets c.args.labels.now in
    let names = c.args.numbering.now in
    let es = entries_of (map seen c.in-Moves.entries.now) in
    subst (λ l. IsAdded R spelled fit (line_weights (line_seen l)) c.args.builder.now (given_by R spelled sets (number_of names) (line_seen l)) c.add_entries.new.builder c.add_entries.result) (sym c.in-Moves.is)
    (subst (λ n. IsAdded R spelled fit (entry_weights es) c.args.builder.now (given_by_entries R spelled sets n (number_of names (name_of (seen c.in-Moves.to))) es) c.add_entries.new.builder c.add_entries.result) c.number-from.ensures.value
    (subst (λ n. IsAdded R spelled fit (entry_weights es) c.args.builder.now (given_by_entries R spelled sets c.number-from.result n es) c.add_entries.new.builder c.add_entries.result) c.number-to.ensures.value
    c.add_entries.ensures.answer))
