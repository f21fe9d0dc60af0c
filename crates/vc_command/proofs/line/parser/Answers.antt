-- What the parser is told, argument by argument.
use Rattle.std.proofs.Common.{◌≡◌, ◌∙◌, rules, ap, ap₂, codes, [], Option, Some, None}
use Rattle.std.specs.Prelude.{IsSomeAnd}
use Rattle.std.proofs.lemmas.Result.{IfOk-weaker}
use Rattle.clap.specs.Lexer.{usize_max}
use Rattle.clap.specs.Walk.{Rule, rule_of}
use Rattle.clap.specs.Simple.{app_of, new_rule, with_rule}
use Rattle.clap.specs.declared.builder.arg.Arg.{Arg}
use Rattle.clap.specs.declared.builder.range.ValueRange.{ValueRange}
use Rattle.clap.specs.declared.builder.action.ArgAction.TheVariants.{Append}
use Rattle.vc_command.specs.Parsers.{shape, limit_rule, order_rule, words_rule}
use Rattle.vc_command.proofs.line.parser.Goals as goal

abbrev several : ValueRange
several = record { start_inclusive = 1; end_inclusive = usize_max }

range_is : (o : Option ValueRange) → IsSomeAnd o (λ r. r ≡ several) → o ≡ Some several
range_is None h = absurd h
range_is (Some r) h = ap Some h

with_range : (a b : Arg) → b ≡ record a { num_vals = b.num_vals } → IsSomeAnd b.num_vals (λ r. r ≡ several) → rule_of b ≡ record (rule_of a) { range = Some several }
with_range a b same is = ap rule_of same ∙ ap (λ o. record (rule_of a) { range = o }) (range_is b.num_vals is)

pub returns : goal.returns
returns c =
    let limit_is : rule_of c.long-limit.result ≡ limit_rule = search rules in
    let order_is : rule_of c.long-order.result ≡ order_rule = search rules in
    let action_is : rule_of c.action.result ≡ record (new_rule (codes "words")) { action = Some Append } = search rules in
    let words_is : rule_of c.num_args-words.result ≡ words_rule =
    with_range c.action.result c.num_args-words.result c.num_args-words.ensures.0 c.num_args-words.ensures.1 ∙ ap (λ (r : Rule). record r { range = Some several }) action_is in
    let shape_is : app_of c.disable_version_flag.result ≡ record { top = shape; subs = [] } = search rules in
    IfOk-weaker c.arg-3.result _ _ (λ m h. h.shape (search rules)
    ∙ ap₂ with_rule (c.in_ok-arg-2.ensures.shape (search rules)
    ∙ ap₂ with_rule (c.in_ok-arg.ensures.shape (search rules) ∙ ap₂ with_rule shape_is limit_is) order_is) words_is) c.arg-3.ensures
