use Rattle.std.proofs.Common.{rules, ◌≡◌, ◌∷◌, false, true, sym, ap, ◌∙◌}
use Rattle.vc_text.specs.Escapes.{unescaped}
use Rattle.vc_label.specs.Alphabets.{has_letter}
use Rattle.vc_label.specs.Growth.{grown}
use Rattle.vc_exprio.proofs.GrownWords.{grown_more, grown_tape, first_out, others_in, more_in}
use Rattle.vc_exprio.proofs.words.push_bytes.Goals as goal

pub returns-then-not-has : goal.returns-then-not-has
returns-then-not-has c =
    let e : unescaped c.loop-letter.rest.now ≡ c.in-Some.letter ∷ unescaped c.in-Some.after.now = search rules in
    let no : c.has.result ≡ false = search rules in
    λ all. first_out c.args.alphabet c.in-Some.letter (unescaped c.in-Some.after.now) (unescaped c.loop-letter.rest.now) c.has.result e c.has.ensures no (c.loop-letter.invariant.none all)

pub loop-letter-preserved : goal.loop-letter-preserved
loop-letter-preserved c =
    let e : unescaped c.loop-letter.rest.now ≡ c.in-Some.letter ∷ unescaped c.in-Some.after.now = search rules in
    let yes : has_letter c.args.alphabet c.in-Some.letter ≡ true = search rules in
    let rest = unescaped c.in-Some.after.now in
    let tape = c.args.tape in
    record {
      word = ap (λ w. grown w tape rest) c.in_ok-push.ensures.ok ∙ grown_more c.loop-letter.word tape c.in-Some.letter rest c.loop-letter.invariant.tape ∙ ap (grown c.loop-letter.word tape) (sym e) ∙ c.loop-letter.invariant.word;
      tape = grown_tape c.loop-letter.word c.push.new.self tape _ c.in_ok-push.ensures.ok c.loop-letter.invariant.tape;
      over = λ h. c.loop-letter.invariant.over (more_in c.args.alphabet c.in-Some.letter rest (unescaped c.loop-letter.rest.now) e yes h);
      none = λ h. others_in c.args.alphabet c.in-Some.letter rest (unescaped c.loop-letter.rest.now) e (c.loop-letter.invariant.none h);
    }
