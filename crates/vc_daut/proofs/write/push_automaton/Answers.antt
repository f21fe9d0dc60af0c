use Rattle.std.proofs.Common.{string_bytes, ◌++◌, ◌∙◌, sym, ap}
use Rattle.std.specs.List.{flat_map}
use Rattle.std.specs.Prelude.{codes}
use Rattle.std.proofs.lemmas.Grind.{flat_map-append}
use Rattle.vc_context.specs.Canonical.{context_text}
use Rattle.vc_context.specs.Sets.{tapes_of}
use Rattle.vc_daut.specs.Canonical.{line_text, initial_line, state_lines}
use Rattle.vc_model.specs.Lists.{below}
use Rattle.vc_daut.proofs.GrowingTexts.{four}
use Rattle.vc_text.specs.Fronts.{front_of, front_twice}
use Rattle.vc_daut.proofs.GrowingTexts.{five}
use Rattle.vc_daut.proofs.write.push_automaton.Goals as goal

pub returns-clause-ok : goal.returns-clause-ok
returns-clause-ok g c =
    let A = c.args.aut.now.automaton in
    five (string_bytes c.args.into.now) (string_bytes c.push_text.new.into) (string_bytes c.write_context.new.into) (string_bytes c.push_text-2.new.into) (string_bytes c.push_initials.new.into) (string_bytes c.push_states.new.into) _ _ _ _ _
    c.in_ok-push_text.ensures.ok c.in_ok-write_context.ensures.ok c.in_ok-push_text-2.ensures.ok c.in_ok-push_initials.ensures.ok c.in_ok-push_states.ensures.ok
    ∙ ap (λ u. string_bytes c.args.into.now ++ (codes "context = \"" ++ (context_text (tapes_of c.args.context.now.labels) c.args.context.now.weights ++ (codes "\"\n" ++ u))))
    (sym (flat_map-append (line_text g.S.Semiring.set g.S.Value.PartialEq.eq g.S.Semiring.canonical) (flat_map (initial_line g.S.Semiring.set g.S.Value.PartialEq.eq A) (below A.states)) (flat_map (state_lines g.S.Semiring.set g.S.Value.PartialEq.eq A) (below A.states))))

pub returns-clause-front : goal.returns-clause-front
returns-clause-front g c = front_of (string_bytes c.args.into.now) (string_bytes c.push_states.new.into) _ (returns-clause-ok g c)

pub returns-in_err-push_states-clause-front : goal.returns-in_err-push_states-clause-front
returns-in_err-push_states-clause-front g c =
    front_twice (string_bytes c.args.into.now) (string_bytes c.push_initials.new.into) (string_bytes c.push_states.new.into)
    (front_of (string_bytes c.args.into.now) (string_bytes c.push_initials.new.into) _
    (four (string_bytes c.args.into.now) (string_bytes c.push_text.new.into) (string_bytes c.write_context.new.into) (string_bytes c.push_text-2.new.into) (string_bytes c.push_initials.new.into) _ _ _ _
    c.in_ok-push_text.ensures.ok c.in_ok-write_context.ensures.ok c.in_ok-push_text-2.ensures.ok c.in_ok-push_initials.ensures.ok))
    c.push_states.ensures.front
