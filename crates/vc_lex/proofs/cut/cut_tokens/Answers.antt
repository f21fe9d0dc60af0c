use Rattle.std.proofs.Common.{◌∙◌, ◌<◌, ◌^◌, ◌∷◌, [], length, map, ap, arith, rules, subst, sym}
use Rattle.std.proofs.lemmas.List.{map-append}
use Rattle.vc_lex.specs.Views.{seen, AreFit}
use Rattle.vc_lex.proofs.NextToken.{IsAt, begins_at, fit_more, step_more, step_ends, step_breaks}
use Rattle.vc_lex.proofs.cut.cut_tokens.Goals as goal

pub loop-next-init : goal.loop-next-init
loop-next-init c =
    let items = c.clear.ensures.items in (
      subst (λ ms. IsAt c.args.mode c.args.text.now ms c.new-lexer.result) (sym (ap (map seen) items)) (begins_at c.args.mode c.args.text.now c.new-lexer.result c.new-lexer.ensures),
      subst AreFit (sym items) tt,
    )

pub loop-next-preserved : goal.loop-next-preserved
loop-next-preserved c =
    let k = step_more c.args.mode c.args.text.now (map seen c.loop-next.tokens.items) c.loop-next.lexer c.next.new.self c.in-Ok.token c.in-Some.next c.loop-next.invariant.0 c.in-Ok.is c.in-Some.ensures.step in
    let within = k.within in
    let small : length c.args.text.now < 2 ^ 64 = search rules in (
      subst (λ ms. IsAt c.args.mode c.args.text.now ms c.next.new.self)
          (sym (ap (map seen) c.in_ok-push-in-Ok.ensures.items ∙ map-append seen c.loop-next.tokens.items (c.in-Ok.token ∷ []))) k.further,
      subst AreFit (sym c.in_ok-push-in-Ok.ensures.items) (fit_more c.loop-next.tokens.items c.in-Ok.token c.loop-next.invariant.1 (omega (arith, within, small))),
    )

pub loop-next-smaller : goal.loop-next-smaller
loop-next-smaller c =
    let k = step_more c.args.mode c.args.text.now (map seen c.loop-next.tokens.items) c.loop-next.lexer c.next.new.self c.in-Ok.token c.in-Some.next c.loop-next.invariant.0 c.in-Ok.is c.in-Some.ensures.step in
    let later = k.later in
    let within = k.further.cut.within in
    omega (arith, later, within)

pub returns-in-Err-clause-cut : goal.returns-in-Err-clause-cut
returns-in-Err-clause-cut c =
    step_breaks c.args.mode c.args.text.now (map seen c.loop-next.tokens.items) c.loop-next.lexer c.next.new.self c.in-Err.bad c.in-Some.next c.loop-next.invariant.0 c.in-Err.is c.in-Some.ensures.step

pub returns-clause-cut : goal.returns-clause-cut
returns-clause-cut c =
    step_ends c.args.mode c.args.text.now (map seen c.loop-next.tokens.items) c.loop-next.lexer c.next.new.self c.loop-next.invariant.0 c.in_default.ensures.step
