use Rattle.std.proofs.Common.{rules, ◌≡◌, ◌∷◌, ◌++◌, [], List, map, Some, ap, ◌∙◌, sym}
use Rattle.std.proofs.lemmas.List.{map-append}
use Rattle.vc_exprio.specs.Views.{step_seen}
use Rattle.vc_exprio.specs.Steps.{Op, group_op}
use Rattle.vc_exprio.specs.Flat.{Flat, parser_seen}
use Rattle.vc_exprio.specs.declared.step.Step.TheVariants as code
use Rattle.vc_exprio.specs.declared.state.Phase.TheVariants.{Operand}
use Rattle.vc_exprio.proofs.FlatTokens.{popped}
use Rattle.vc_exprio.proofs.closing.close_level.Goals as goal

pub returns : goal.returns
returns c =
    let o : c.close_sum.new.parser.outer.items ≡ c.pop.new.self.items ++ c.in-Some.level ∷ [] = search rules in
    let e = popped (parser_seen c.args.parser.now) (parser_seen c.close_sum.new.parser) c.pop.new.self.items c.in-Some.level c.in_ok-close_sum.ensures o in
    let s : map step_seen c.close_sum.new.parser.steps.items ++ group_op ∷ [] ≡ map step_seen c.push.new.self.items =
    sym (ap (map step_seen) c.in_ok-push.ensures.items ∙ map-append step_seen c.close_sum.new.parser.steps.items (code.Group ∷ [])) in
    let made : List Op → Flat = λ x. record { steps = x; outer = c.pop.new.self.items; pending = (parser_seen c.close_sum.new.parser).pending; level = c.in-Some.level; phase = Operand } in
    e ∙ ap (λ (x : List Op). Some (made x)) s
