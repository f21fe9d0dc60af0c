-- The canonical text of an automaton is cut into its lines.
use Rattle.std.proofs.Common.{◌≡◌, ℕ, Bool, true, false, ◌==◌, List, [], ◌∷◌, ◌++◌, map, codes, All, refl, ap, ap₂, sym, ◌∙◌, append_assoc}
use Rattle.std.specs.Prelude.{IsTrue, if◌then◌else◌}
use Rattle.std.specs.List.{flat_map}
use Rattle.std.proofs.lemmas.Bool.{eqb-true}
use Rattle.vc_context.specs.Canonical.{context_text}
use Rattle.vc_context.specs.declared.context.Weights.{Weights}
use Rattle.vc_label.specs.Letters.{is_of_letters}
use Rattle.vc_label.specs.Sets.{IsOverSets}
use Rattle.vc_label.specs.declared.tape_set.TapeSet.{TapeSet}
use Rattle.vc_model.specs.Automata.{Automaton}
use Rattle.vc_model.specs.WeightSet.{WeightSet}
use Rattle.vc_model.specs.Words.{Word}
use Rattle.vc_ring.specs.Texts.{IsWeightByte, WeightTexts}
use Rattle.vc_daut.specs.Canonical.{TextLine, line_text, automaton_lines, automaton_text}
use Rattle.vc_lines.specs.Lines.{is_line_feed, without_return, counted, with_first, lines_of}
use Rattle.vc_lines.specs.Pieces.{pieces, onto_first}
use Rattle.vc_daut.proofs.LineTokens.{body, line_is_body}
use Rattle.vc_daut.proofs.ReadBack.{AreTextLines}
use Rattle.vc_daut.proofs.ShownBytes.{is_shown, AreShown, shown_first, shown_append, body_shown}

low_differs : (x c : ℕ) → is_shown c ≡ false → is_shown x ≡ true → (x == c) ≡ false
low_differs x c low h = go (x == c) refl
  where
    go : (b : Bool) → (x == c) ≡ b → b ≡ false
    go true e = let both : true ≡ false = sym h ∙ ap is_shown (eqb-true x c e) ∙ low in absurd (cc)
    go false e = refl

-- a line in front of a line feed
cut_line : (s rest : List ℕ) → AreShown s → pieces is_line_feed (s ++ 10 ∷ rest) ≡ s ∷ pieces is_line_feed rest
cut_line [] rest h = refl
cut_line (x ∷ s) rest h =
    let p = shown_first x s h in
    ap (λ b. if b then [] ∷ pieces is_line_feed (s ++ 10 ∷ rest) else onto_first x (pieces is_line_feed (s ++ 10 ∷ rest))) (low_differs x 10 refl p.0)
    ∙ ap (onto_first x) (cut_line s rest p.1)

no_return : (s : List ℕ) → AreShown s → without_return s ≡ s
no_return [] h = refl
no_return (x ∷ []) h = ap (λ b. if b then [] else x ∷ []) (low_differs x 13 refl (shown_first x [] h).0)
no_return (x ∷ y ∷ s) h = ap (λ t. x ∷ t) (no_return (y ∷ s) (shown_first x (y ∷ s) h).1)

-- the empty line at the end is not counted
counted_end : (ls : List (List ℕ)) → counted (ls ++ [] ∷ []) ≡ ls
counted_end [] = refl
counted_end ([] ∷ []) = refl
counted_end ((x ∷ s) ∷ []) = refl
counted_end ([] ∷ l ∷ ls) = ap (λ t. [] ∷ t) (counted_end (l ∷ ls))
counted_end ((x ∷ s) ∷ l ∷ ls) = ap (λ t. (x ∷ s) ∷ t) (counted_end (l ∷ ls))

module _ {V : Type 0} (R : WeightSet V) (same : V → V → Bool) (canonical : V → List ℕ) (bytes : (w : V) → All IsWeightByte (canonical w))
    (sets : List TapeSet) (letters : (ss : List TapeSet) (w : Word) → IsOverSets ss w → IsTrue (is_of_letters w)) where
  lines_cut : (ts : List (TextLine V)) → AreTextLines R sets ts
      → map without_return (pieces is_line_feed (flat_map (line_text R same canonical) ts)) ≡ map (body R same canonical) ts ++ [] ∷ []
  lines_cut [] h = refl
  lines_cut (t ∷ ts) h =
      let shown : AreShown (body R same canonical t) = body_shown R same canonical bytes sets letters t h.0 in
      let rest : List ℕ = flat_map (line_text R same canonical) ts in
      ap (λ s. map without_return (pieces is_line_feed (s ++ rest))) (line_is_body R same canonical t)
      ∙ ap (λ s. map without_return (pieces is_line_feed s)) (append_assoc (body R same canonical t) (codes "\n") rest)
      ∙ ap (map without_return) (cut_line (body R same canonical t) rest shown)
      ∙ ap₂ (λ l ls. l ∷ ls) (no_return (body R same canonical t) shown) (lines_cut ts h.1)

  -- a shown line, a line feed, and lines
  pub after_line : (first : List ℕ) (ts : List (TextLine V)) → AreShown first → AreTextLines R sets ts
      → lines_of (first ++ 10 ∷ flat_map (line_text R same canonical) ts) ≡ first ∷ map (body R same canonical) ts
  after_line first ts shown h =
      ap (λ ls. with_first (map without_return ls)) (cut_line first (flat_map (line_text R same canonical) ts) shown)
      ∙ ap₂ (λ l ls. l ∷ counted ls) (no_return first shown) (lines_cut ts h)
      ∙ ap (λ ls. first ∷ ls) (counted_end (map (body R same canonical) ts))

pub text_cut : {V : Type 0} (T : WeightTexts V) → ((w : V) → All IsWeightByte (T.canonical w)) → (sets : List TapeSet) → ((ss : List TapeSet) (w : Word) → IsOverSets ss w → IsTrue (is_of_letters w))
    → (weights : Weights) (a : Automaton V) → AreShown (context_text sets weights) → AreTextLines T.set sets (automaton_lines T.set T.same a)
    → lines_of (automaton_text T sets weights a) ≡ (codes "context = \"" ++ (context_text sets weights ++ codes "\"")) ∷ map (body T.set T.same T.canonical) (automaton_lines T.set T.same a)
text_cut T bytes sets letters weights a shown h =
    let c : List ℕ = context_text sets weights in
    let first : List ℕ = codes "context = \"" ++ (c ++ codes "\"") in
    let ts = automaton_lines T.set T.same a in
    ap (λ s. lines_of (codes "context = \"" ++ s)) (sym (append_assoc c (codes "\"") (10 ∷ flat_map (line_text T.set T.same T.canonical) ts)))
    ∙ after_line T.set T.same T.canonical bytes sets letters first ts (shown_append (codes "context = \"") (c ++ codes "\"") refl (shown_append c (codes "\"") shown refl)) h
