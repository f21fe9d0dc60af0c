use Rattle.std.proofs.Common.{rules, ◌≡◌, ◌==◌, ◌∙◌, length, false, true, sym}
use Rattle.std.specs.Prelude.{◌↔◌, IsTrue}
use Rattle.std.proofs.lemmas.Bool.{eqb-true, eq-eqb}
use Rattle.std.proofs.lemmas.List.{length-map}
use Rattle.vc_exprio.specs.WordParts.{tapes_of}
use Rattle.vc_lex.specs.Views.{seen}
use Rattle.vc_lex.specs.declared.token.TokenKind.TheVariants.{One}
use Rattle.vc_model.specs.Words.{is_empty}
use Rattle.vc_text.specs.Escapes.{unescaped}
use Rattle.vc_exprio.proofs.ToldLabels.{empty_told, lettered_told, one_told}
use Rattle.vc_exprio.proofs.labels.is_over.Goals as goal

pub returns-then-is_one_alone : goal.returns-then-is_one_alone
returns-then-is_one_alone g c =
    let one : c.args.first.kind ≡ One = search rules in
    let alone : length c.args.parts.now ≡ 1 = search rules in
    λ further e. one_told (g.L.LabelSet.sets c.args.labels.now) (seen c.args.first) further (tapes_of c.args.parts.now) e one (length-map c.args.parts.now (λ p. unescaped p.now) ∙ alone)

pub returns-then-are_empty : goal.returns-then-are_empty
returns-then-are_empty g c =
    let sets = g.L.LabelSet.sets c.args.labels.now in
    let w = tapes_of c.args.parts.now in
    let many : length w ≡ length c.args.parts.now = length-map c.args.parts.now (λ p. unescaped p.now) in
    let alone : c.args.first.kind ≡ One → length c.args.parts.now ≡ 1 → ⊥ = search rules in
    let none : is_empty w ≡ true = search rules in
    let tapes : c.tapes.result ≡ length sets = search rules in
    let told : IsTrue (length c.args.parts.now == c.tapes.result) ↔ (length w ≡ length sets) = (
      λ h. many ∙ eqb-true (length c.args.parts.now) c.tapes.result h ∙ tapes,
      λ h. eq-eqb (length c.args.parts.now) c.tapes.result (sym many ∙ h ∙ sym tapes),
    ) in
    λ further e. empty_told sets (seen c.args.first) further w (length c.args.parts.now == c.tapes.result) e (λ k l. alone k (sym many ∙ l)) none told (λ v. c.words_are_over_sets.ensures.tapes sets v)

pub returns : goal.returns
returns g c =
    let w = tapes_of c.args.parts.now in
    let some : is_empty w ≡ false = search rules in
    λ further e. lettered_told (g.L.LabelSet.sets c.args.labels.now) (seen c.args.first) further w c.are_over.result e some c.are_over.ensures
