use Rattle.std.proofs.Common.{rules, ◌≡◌, ◌≢◌, ◌∷◌, ◌++◌, [], Some, None, sym, ap, subst, ◌∙◌}
use Rattle.std.proofs.lemmas.List.{map-append}
use Rattle.vc_exprio.specs.WordParts.{part_in, part_at, tapes_of, found, LeavesRest}
use Rattle.vc_text.specs.Escapes.{unescaped}
use Rattle.vc_exprio.specs.Words.{SpellsWord}
use Rattle.vc_exprio.proofs.SpelledWords.{part_more, part_last, part_missing, part_broken, shorter_rest, empty, full}
use Rattle.vc_exprio.proofs.parts.parts_of.Goals as goal

pub returns-then-is_empty : goal.returns-then-is_empty
returns-then-is_empty c =
    let e : part_at c.loop-part.rest.now ≡ Some (found c.in-Some.part) = sym (ap part_in c.after_blanks.ensures) ∙ sym c.in-Some.ensures in
    let items : tapes_of c.push.new.self.items ≡ tapes_of c.loop-part.parts.items ++ unescaped c.in-Some.part.letters.now ∷ [] =
    ap tapes_of c.in_ok-push.ensures.items ∙ map-append (λ p. unescaped p.now) c.loop-part.parts.items (c.in-Some.part.letters ∷ []) in
    let none : c.in-Some.part.after.now ≡ [] = empty c.in-Some.part.after.now c.is_empty.result c.is_empty.ensures c.if-is_empty.true in
    subst (SpellsWord c.args.text.now) (sym items) (part_last c.args.text.now c.loop-part.rest.now (tapes_of c.loop-part.parts.items) (found c.in-Some.part) c.loop-part.invariant e none)

pub loop-part-smaller : goal.loop-part-smaller
loop-part-smaller c =
    let e : part_at c.loop-part.rest.now ≡ Some (found c.in-Some.part) = sym (ap part_in c.after_blanks.ensures) ∙ sym c.in-Some.ensures in
    let bar : c.in-Some.part.after.now ≡ 124 ∷ c.in-Some-after_bar.after.now = search rules in
    shorter_rest c.loop-part.rest.now c.in-Some-after_bar.after.now (found c.in-Some.part) e bar

pub loop-part-preserved : goal.loop-part-preserved
loop-part-preserved c =
    let e : part_at c.loop-part.rest.now ≡ Some (found c.in-Some.part) = sym (ap part_in c.after_blanks.ensures) ∙ sym c.in-Some.ensures in
    let items : tapes_of c.push.new.self.items ≡ tapes_of c.loop-part.parts.items ++ unescaped c.in-Some.part.letters.now ∷ [] =
    ap tapes_of c.in_ok-push.ensures.items ∙ map-append (λ p. unescaped p.now) c.loop-part.parts.items (c.in-Some.part.letters ∷ []) in
    let bar : c.in-Some.part.after.now ≡ 124 ∷ c.in-Some-after_bar.after.now = search rules in
    subst (λ w. LeavesRest c.args.text.now w c.in-Some-after_bar.after.now) (sym items)
    (part_more c.args.text.now c.loop-part.rest.now c.in-Some-after_bar.after.now (tapes_of c.loop-part.parts.items) (found c.in-Some.part) c.loop-part.invariant e bar)

pub returns-in_default-after_bar : goal.returns-in_default-after_bar
returns-in_default-after_bar c =
    let e : part_at c.loop-part.rest.now ≡ Some (found c.in-Some.part) = sym (ap part_in c.after_blanks.ensures) ∙ sym c.in-Some.ensures in
    let some : c.in-Some.part.after.now ≢ [] = full c.in-Some.part.after.now c.is_empty.result c.is_empty.ensures c.if-is_empty.false in
    part_broken c.args.text.now c.loop-part.rest.now (tapes_of c.loop-part.parts.items) (found c.in-Some.part) c.loop-part.invariant e some c.in_default-after_bar.ensures

pub returns : goal.returns
returns c =
    let e : part_at c.loop-part.rest.now ≡ None = sym (ap part_in c.after_blanks.ensures) ∙ sym c.in_default.ensures in
    part_missing c.args.text.now c.loop-part.rest.now (tapes_of c.loop-part.parts.items) c.loop-part.invariant e
