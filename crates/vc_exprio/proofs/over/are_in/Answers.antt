use Rattle.std.proofs.Common.{rules, ◌≡◌, ◌∷◌, false, true}
use Rattle.std.proofs.lemmas.Bool.{false≢true}
use Rattle.vc_text.specs.Escapes.{unescaped}
use Rattle.vc_label.specs.Alphabets.{has_letter}
use Rattle.vc_exprio.proofs.GrownWords.{first_out, others_in, more_in}
use Rattle.vc_exprio.proofs.over.are_in.Goals as goal

pub returns-then-not-has : goal.returns-then-not-has
returns-then-not-has c =
    let e : unescaped c.loop-letter.rest.now ≡ c.in-Some.letter ∷ unescaped c.in-Some.after.now = search rules in
    let no : c.has.result ≡ false = search rules in (
      λ h. absurd (false≢true h),
      λ all. absurd (first_out c.args.alphabet c.in-Some.letter (unescaped c.in-Some.after.now) (unescaped c.loop-letter.rest.now) c.has.result e c.has.ensures no (c.loop-letter.invariant.none all)),
    )

pub loop-letter-preserved : goal.loop-letter-preserved
loop-letter-preserved c =
    let e : unescaped c.loop-letter.rest.now ≡ c.in-Some.letter ∷ unescaped c.in-Some.after.now = search rules in
    let yes : has_letter c.args.alphabet c.in-Some.letter ≡ true = search rules in
    let rest = unescaped c.in-Some.after.now in
    record {
      over = λ h. c.loop-letter.invariant.over (more_in c.args.alphabet c.in-Some.letter rest (unescaped c.loop-letter.rest.now) e yes h);
      none = λ h. others_in c.args.alphabet c.in-Some.letter rest (unescaped c.loop-letter.rest.now) e (c.loop-letter.invariant.none h);
    }
