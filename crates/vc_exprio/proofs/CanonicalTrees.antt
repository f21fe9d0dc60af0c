-- The canonical text of an expression of a store is read as a tree that is built to this expression.
use Rattle.std.proofs.Common.{◌≡◌, ℕ, Bool, true, false, List, [], ◌∷◌, ◌++◌, map, Option, Some, codes, refl, ap, ap₂, sym, ◌∙◌, append_assoc, append-nil}
use Rattle.std.specs.Prelude.{if◌then◌else◌, IsTrue, unwrap_or}
use Rattle.std.specs.Option.{is_some}
use Rattle.vc_lex.specs.declared.token.TokenKind.TheVariants as kinds
use Rattle.vc_model.specs.Lists.{IsEqualityTest}
use Rattle.vc_terms.specs.Terms.{Term, Terms, Zero, One, Atom, Sum, Product, Star, Weight, Both, Shuffle, NoTerms, MoreTerms, list_of}
use Rattle.vc_model.specs.WeightSet.{WeightSet, SemiringLaws}
use Rattle.vc_model.specs.Words.{Word}
use Rattle.vc_lex.specs.Marks.{Mark}
use Rattle.vc_exprio.specs.Trees.{Tree, Barred, zero_tree, label, group, star, weight_before, times, both, shuffle, plus, tokens_of, barred_tokens}
use Rattle.vc_exprio.specs.Grammar.{is_atom, is_postfixed, is_prefixed, is_product, is_conjunction, is_shuffle, is_sum, AreBarred, InGrammar}
use Rattle.vc_text.specs.Escapes.{inside}
use Rattle.vc_lex.specs.Parts.{tape_of}
use Rattle.vc_exprio.specs.Meaning.{label_term, is_times, is_plus, summands, term_of}
use Rattle.vc_exprio.specs.Meaning as meaning
use Rattle.vc_expr.specs.Facts.{HasRootValues}
use Rattle.vc_terms.specs.Forms.{IsMember, AreMembers, IsFactor, AreFactors, AreMany, IsBuilt, IsBuiltRoot, Everywhere, EverywhereIn}
use Rattle.vc_terms.specs.Identities.{built_of, built_all, sum_of, product_of, star_of, both_of, shuffle_of, weight_of}
use Rattle.vc_exprio.specs.Canonical.{Piece, part_piece, bar_pieces, Place, of_star, of_weight, of_product, left_of_and, right_of_and, left_of_shuffle, right_of_shuffle, has_parentheses, in_parentheses, operand, weight_piece, pieces_of, more_pieces, product_pieces}
use Rattle.vc_exprio.proofs.GrammarForms.{looser_postfixed, looser_prefixed, looser_product, looser_conjunction, looser_shuffle, looser_sum}
use Rattle.vc_exprio.proofs.BuiltParts.{star_kept, both_kept, shuffle_kept, sum_kept, product_kept, weight_kept, built_append}
use Rattle.vc_exprio.proofs.PartLetters.{inside_is, part_read}

-- ---- lists of tokens, cut where their pieces are cut

abbrev pub piece_of : Mark → Piece
piece_of m = record { kind = m.kind; text = m.text }

pub record Cut (ms : List Mark) (a b : List Piece) : Type 0 where
  pub front : List Mark
  pub back : List Mark
  pub is : front ++ back ≡ ms
  pub front_is : map piece_of front ≡ a
  pub back_is : map piece_of back ≡ b

pub cut : (ms : List Mark) (a b : List Piece) → map piece_of ms ≡ a ++ b → Cut ms a b
cut ms [] b e = record { front = []; back = ms; is = refl; front_is = refl; back_is = e }
cut [] (p ∷ a) b e = absurd (cc)
cut (m ∷ ms) (p ∷ a) b e =
    let first : piece_of m ≡ p = cc in
    let later : map piece_of ms ≡ a ++ b = cc in
    let c = cut ms a b later in
    record { front = m ∷ c.front; back = c.back; is = ap (λ x. m ∷ x) c.is; front_is = ap₂ (λ x y. x ∷ y) first c.front_is; back_is = c.back_is }

pub record First (ms : List Mark) (p : Piece) (b : List Piece) : Type 0 where
  pub mark : Mark
  pub back : List Mark
  pub is : mark ∷ back ≡ ms
  pub kind : mark.kind ≡ p.kind
  pub text : mark.text ≡ p.text
  pub back_is : map piece_of back ≡ b

pub first : (ms : List Mark) (p : Piece) (b : List Piece) → map piece_of ms ≡ p ∷ b → First ms p b
first [] p b e = absurd (cc)
first (m ∷ ms) p b e =
    let one : piece_of m ≡ p = cc in
    let later : map piece_of ms ≡ b = cc in
    record { mark = m; back = ms; is = refl; kind = ap (λ x. x.kind) one; text = ap (λ x. x.text) one; back_is = later }

pub no_more : (ms : List Mark) → map piece_of ms ≡ [] → [] ≡ ms
no_more [] e = refl
no_more (m ∷ ms) e = absurd (cc)

-- ---- labels

pub record Bars (ms : List Mark) (w : Word) : Type 0 where
  pub barred : List Barred
  pub tokens : barred_tokens barred ≡ ms
  pub are : AreBarred barred
  pub word : map (λ b. tape_of b.part) barred ≡ w

bars_read : (w : Word) (ms : List Mark) → map piece_of ms ≡ bar_pieces w → Bars ms w
bars_read [] ms e = record { barred = []; tokens = no_more ms e; are = tt; word = refl }
bars_read (a ∷ w) ms e =
    let bar = first ms (record { kind = kinds.Bar; text = codes "|" }) (part_piece a ∷ bar_pieces w) e in
    let part = first bar.back (part_piece a) (bar_pieces w) bar.back_is in
    let r = part_read a part.mark part.kind part.text in
    let more = bars_read w part.back part.back_is in
    record {
      barred = record { bar = bar.mark; part = part.mark } ∷ more.barred;
      tokens = ap (λ x. bar.mark ∷ part.mark ∷ x) more.tokens ∙ ap (λ x. bar.mark ∷ x) part.is ∙ bar.is;
      are = (bar.kind, r.0, more.are);
      word = ap₂ (λ x y. x ∷ y) r.1 more.word;
    }

-- ---- forms

abbrev pub form_of : {V : Type 0} → Term V → Tree → Bool
form_of (Sum ts) = is_sum
form_of (Product ts) = is_product
form_of (Star t) = is_postfixed
form_of (Weight k t) = is_prefixed
form_of (Both t u) = is_conjunction
form_of (Shuffle t u) = is_shuffle
form_of t = is_atom

abbrev pub place_form : Place → Tree → Bool
place_form of_star = is_postfixed
place_form of_weight = is_prefixed
place_form of_product = is_postfixed
place_form left_of_and = is_conjunction
place_form right_of_and = is_product
place_form left_of_shuffle = is_shuffle
place_form right_of_shuffle = is_conjunction

-- the operand may stand at the place: a factor of a product is no product and no weight
abbrev pub MayStand : {V : Type 0} → Place → Term V → Type 0
MayStand of_product t = IsFactor t
MayStand place t = Unit {0}

in_group : (place : Place) (opening : Mark) (t : Tree) (closing : Mark) → place_form place (group opening t closing) ≡ true
in_group of_star opening t closing = refl
in_group of_weight opening t closing = refl
in_group of_product opening t closing = refl
in_group left_of_and opening t closing = refl
in_group right_of_and opening t closing = refl
in_group left_of_shuffle opening t closing = refl
in_group right_of_shuffle opening t closing = refl

a1 : (x : Tree) → is_atom x ≡ true → is_prefixed x ≡ true
a1 x e = looser_prefixed x (looser_postfixed x e)

a2 : (x : Tree) → is_atom x ≡ true → is_product x ≡ true
a2 x e = looser_product x (a1 x e)

a3 : (x : Tree) → is_atom x ≡ true → is_conjunction x ≡ true
a3 x e = looser_conjunction x (a2 x e)

a4 : (x : Tree) → is_atom x ≡ true → is_shuffle x ≡ true
a4 x e = looser_shuffle x (a3 x e)

s2 : (x : Tree) → is_postfixed x ≡ true → is_product x ≡ true
s2 x e = looser_product x (looser_prefixed x e)

s3 : (x : Tree) → is_postfixed x ≡ true → is_conjunction x ≡ true
s3 x e = looser_conjunction x (s2 x e)

s4 : (x : Tree) → is_postfixed x ≡ true → is_shuffle x ≡ true
s4 x e = looser_shuffle x (s3 x e)

w3 : (x : Tree) → is_prefixed x ≡ true → is_conjunction x ≡ true
w3 x e = looser_conjunction x (looser_product x e)

w4 : (x : Tree) → is_prefixed x ≡ true → is_shuffle x ≡ true
w4 x e = looser_shuffle x (w3 x e)

p4 : (x : Tree) → is_product x ≡ true → is_shuffle x ≡ true
p4 x e = looser_shuffle x (looser_conjunction x e)

-- an operand without parentheses has the form that its place wants
bare : {V : Type 0} (place : Place) (t : Term V) → MayStand place t → has_parentheses place t ≡ false → (x : Tree) → form_of t x ≡ true → place_form place x ≡ true
bare of_star Zero m h x e = looser_postfixed x e
bare of_star One m h x e = looser_postfixed x e
bare of_star (Atom a) m h x e = looser_postfixed x e
bare of_star (Star t) m h x e = e
bare of_star t m h x e = absurd (cc)
bare of_weight Zero m h x e = a1 x e
bare of_weight One m h x e = a1 x e
bare of_weight (Atom a) m h x e = a1 x e
bare of_weight (Star t) m h x e = looser_prefixed x e
bare of_weight (Weight k t) m h x e = e
bare of_weight t m h x e = absurd (cc)
bare of_product (Atom a) m h x e = looser_postfixed x e
bare of_product (Star t) m h x e = e
bare of_product Zero m h x e = absurd m
bare of_product One m h x e = absurd m
bare of_product (Product ts) m h x e = absurd m
bare of_product (Weight k t) m h x e = absurd m
bare of_product t m h x e = absurd (cc)
bare left_of_and Zero m h x e = a3 x e
bare left_of_and One m h x e = a3 x e
bare left_of_and (Atom a) m h x e = a3 x e
bare left_of_and (Star t) m h x e = s3 x e
bare left_of_and (Weight k t) m h x e = w3 x e
bare left_of_and (Product ts) m h x e = looser_conjunction x e
bare left_of_and (Both t u) m h x e = e
bare left_of_and t m h x e = absurd (cc)
bare right_of_and Zero m h x e = a2 x e
bare right_of_and One m h x e = a2 x e
bare right_of_and (Atom a) m h x e = a2 x e
bare right_of_and (Star t) m h x e = s2 x e
bare right_of_and (Weight k t) m h x e = looser_product x e
bare right_of_and (Product ts) m h x e = e
bare right_of_and t m h x e = absurd (cc)
bare left_of_shuffle Zero m h x e = a4 x e
bare left_of_shuffle One m h x e = a4 x e
bare left_of_shuffle (Atom a) m h x e = a4 x e
bare left_of_shuffle (Star t) m h x e = s4 x e
bare left_of_shuffle (Weight k t) m h x e = w4 x e
bare left_of_shuffle (Product ts) m h x e = p4 x e
bare left_of_shuffle (Both t u) m h x e = looser_shuffle x e
bare left_of_shuffle (Shuffle t u) m h x e = e
bare left_of_shuffle t m h x e = absurd (cc)
bare right_of_shuffle Zero m h x e = a3 x e
bare right_of_shuffle One m h x e = a3 x e
bare right_of_shuffle (Atom a) m h x e = a3 x e
bare right_of_shuffle (Star t) m h x e = s3 x e
bare right_of_shuffle (Weight k t) m h x e = w3 x e
bare right_of_shuffle (Product ts) m h x e = looser_conjunction x e
bare right_of_shuffle (Both t u) m h x e = e
bare right_of_shuffle t m h x e = absurd (cc)

-- a member of a sum is a shuffle
member_form : {V : Type 0} (t : Term V) → IsMember t → (x : Tree) → form_of t x ≡ true → is_shuffle x ≡ true
member_form Zero m x e = absurd m
member_form (Sum ts) m x e = absurd m
member_form t m x e = bare left_of_shuffle t tt refl x e

not_plus : (x : Tree) → is_shuffle x ≡ true → is_plus x ≡ false
not_plus (plus t m u) e = absurd (cc)
not_plus x e = refl

not_times : (x : Tree) → is_postfixed x ≡ true → is_times x ≡ false
not_times (times t u) e = absurd (cc)
not_times x e = refl

-- ---- the expressions

module _ {V : Type 0} (R : WeightSet V) (L : SemiringLaws R) (same : V → V → Bool) (test : IsEqualityTest same)
    (spelled : List ℕ → Option V) (canonical : V → List ℕ) (texts : (k : V) → IsTrue (R.in_range k) → spelled (canonical k) ≡ Some k) (class_letters : Mark → List ℕ) where
  abbrev is_weight : Mark → Bool
  is_weight m = is_some (spelled (inside m.text))

  abbrev value : Mark → V
  value m = unwrap_or (spelled (inside m.text)) R.zero

  abbrev shown : Tree → Term V
  shown x = term_of value class_letters x

  abbrev built : Term V → Term V
  built t = built_of R same t

  abbrev all_built : Terms V → List (Term V)
  all_built ts = built_all R same ts

  -- the tokens are those of a tree of this form that is built to the expression
  pub record IsWritten (is_form : Tree → Bool) (ms : List Mark) (t : Term V) : Type 0 where
    pub tree : Tree
    pub tokens : tokens_of tree ≡ ms
    pub form : is_form tree ≡ true
    pub grammar : InGrammar is_weight tree
    pub is : built (shown tree) ≡ t

  operand_written : (place : Place) (t : Term V) → MayStand place t → ((ms : List Mark) → map piece_of ms ≡ pieces_of canonical t → IsWritten (form_of t) ms t)
      → (ms : List Mark) → map piece_of ms ≡ operand place t (pieces_of canonical t) → IsWritten (place_form place) ms t
  operand_written place t may f ms e = go (has_parentheses place t) refl e
    where
      go : (b : Bool) → has_parentheses place t ≡ b → map piece_of ms ≡ (if b then in_parentheses (pieces_of canonical t) else pieces_of canonical t) → IsWritten (place_form place) ms t
      go true h e =
          let l = first ms (record { kind = kinds.Left; text = codes "(" }) (pieces_of canonical t ++ record { kind = kinds.Right; text = codes ")" } ∷ []) e in
          let c = cut l.back (pieces_of canonical t) (record { kind = kinds.Right; text = codes ")" } ∷ []) l.back_is in
          let r = first c.back (record { kind = kinds.Right; text = codes ")" }) [] c.back_is in
          let x = f c.front c.front_is in
          let last : r.mark ∷ [] ≡ c.back = ap (λ y. r.mark ∷ y) (no_more r.back r.back_is) ∙ r.is in
          record {
            tree = group l.mark x.tree r.mark;
            tokens = ap (λ y. l.mark ∷ y) (ap₂ (λ y z. y ++ z) x.tokens last ∙ c.is) ∙ l.is;
            form = in_group place l.mark x.tree r.mark;
            grammar = (l.kind, (looser_sum x.tree, x.grammar), r.kind);
            is = x.is;
          }
      go false h e = let x = f ms e in record { tree = x.tree; tokens = x.tokens; form = bare place t may h x.tree x.form; grammar = x.grammar; is = x.is }

  weight_read : (k : V) (m : Mark) → IsTrue (R.in_range k) → m.text ≡ (weight_piece canonical k).text → (is_weight m ≡ true) × (value m ≡ k)
  weight_read k m range e =
      let s : spelled (inside m.text) ≡ Some k = ap (λ x. spelled (inside x)) e ∙ ap spelled (inside_is 60 62 (canonical k)) ∙ texts k range in
      (ap is_some s, ap (λ x. unwrap_or x R.zero) s)

  -- the built members of the sum that a tree is, or the tree alone
  abbrev sum_members : Tree → Terms V
  sum_members x = summands (is_plus x) (shown x)

  abbrev product_members : Tree → Terms V
  product_members x = meaning.factors (is_times x) (shown x)

  sum_shown : (x : Tree) → is_plus x ≡ true → shown x ≡ Sum (sum_members x)
  sum_shown (plus t m u) e = refl
  sum_shown x e = absurd (cc)

  product_shown : (x : Tree) → is_times x ≡ true → shown x ≡ Product (product_members x)
  product_shown (times t u) e = refl
  product_shown x e = absurd (cc)

  one_sum : (x : Tree) → is_shuffle x ≡ true → sum_members x ≡ MoreTerms (shown x) NoTerms
  one_sum x e = ap (λ b. summands b (shown x)) (not_plus x e)

  one_product : (x : Tree) → is_postfixed x ≡ true → product_members x ≡ MoreTerms (shown x) NoTerms
  one_product x e = ap (λ b. meaning.factors b (shown x)) (not_times x e)

  pub record SumBehind (x : Tree) (ms : List Mark) (ts : Terms V) : Type 0 where
    pub tree : Tree
    pub tokens : tokens_of tree ≡ tokens_of x ++ ms
    pub grammar : InGrammar is_weight tree
    pub two : AreMany (MoreTerms Zero ts) → is_plus tree ≡ true
    pub kept : is_plus x ≡ true → is_plus tree ≡ true
    pub is : all_built (sum_members tree) ≡ all_built (sum_members x) ++ list_of ts

  pub record ProductBehind (x : Tree) (ms : List Mark) (ts : Terms V) : Type 0 where
    pub tree : Tree
    pub tokens : tokens_of tree ≡ tokens_of x ++ ms
    pub form : is_product tree ≡ true
    pub grammar : InGrammar is_weight tree
    pub two : AreMany (MoreTerms Zero ts) → is_times tree ≡ true
    pub kept : is_times x ≡ true → is_times tree ≡ true
    pub is : all_built (product_members tree) ≡ all_built (product_members x) ++ list_of ts

  mutual
    pub written : (t : Term V) → IsBuilt R same t → Everywhere (HasRootValues R) t → (ms : List Mark) → map piece_of ms ≡ pieces_of canonical t → IsWritten (form_of t) ms t
    written Zero h v ms e =
        let f = first ms (record { kind = kinds.Zero; text = codes "\\z" }) [] e in
        record { tree = zero_tree f.mark; tokens = ap (λ y. f.mark ∷ y) (no_more f.back f.back_is) ∙ f.is; form = refl; grammar = f.kind; is = refl }
    written One h v ms e =
        let f = first ms (record { kind = kinds.One; text = codes "\\e" }) [] e in
        let r = part_read [] f.mark f.kind f.text in
        record {
          tree = label f.mark [];
          tokens = ap (λ y. f.mark ∷ y) (no_more f.back f.back_is) ∙ f.is;
          form = refl;
          grammar = (r.0, tt);
          is = ap (λ a. built (label_term (a ∷ []))) r.1;
        }
    written (Atom []) h v ms e = absurd (cc)
    written (Atom (a ∷ w)) h v ms e =
        let f = first ms (part_piece a) (bar_pieces w) e in
        let r = part_read a f.mark f.kind f.text in
        let b = bars_read w f.back f.back_is in
        record {
          tree = label f.mark b.barred;
          tokens = ap (λ y. f.mark ∷ y) b.tokens ∙ f.is;
          form = refl;
          grammar = (r.0, b.are);
          is = ap (λ v. built (label_term v)) (ap₂ (λ x y. x ∷ y) r.1 b.word)
              ∙ ap (λ c. built (if c then One else Atom (a ∷ w))) h ∙ ap (λ c. if c then One else Atom (a ∷ w)) h;
        }
    written (Sum NoTerms) ((members, two), h) v ms e = absurd two
    written (Sum (MoreTerms t ts)) (((member, members), two), (is, more)) (v, (value_is, values)) ms e =
        let c = cut ms (pieces_of canonical t) (more_pieces canonical ts) e in
        let x = written t is value_is c.front c.front_is in
        let shape = member_form t member x.tree x.form in
        let y = sum_written ts members more values x.tree (looser_sum x.tree) x.grammar c.back c.back_is in
        let whole : all_built (sum_members y.tree) ≡ t ∷ list_of ts = y.is ∙ ap (λ us. all_built us ++ list_of ts) (one_sum x.tree shape) ∙ ap (λ u. u ∷ list_of ts) x.is in
        record {
          tree = y.tree;
          tokens = y.tokens ∙ ap (λ z. z ++ c.back) x.tokens ∙ c.is;
          form = looser_sum y.tree;
          grammar = y.grammar;
          is = ap built (sum_shown y.tree (y.two (some_two t ts two))) ∙ ap looser whole ∙ sum_kept (MoreTerms t ts) two (member, members);
        }
      where
        looser : List (Term V) → Term V
        looser us = sum_of us

        some_two : (t : Term V) (ts : Terms V) → AreMany (MoreTerms t ts) → AreMany (MoreTerms Zero ts)
        some_two t NoTerms two = two
        some_two t (MoreTerms u us) two = two
    written (Product NoTerms) ((factors, two), h) v ms e = absurd two
    written (Product (MoreTerms t ts)) (((member, members), two), (is, more)) (v, (value_is, values)) ms e =
        let c = cut ms (operand of_product t (pieces_of canonical t)) (product_pieces canonical ts) e in
        let x = operand_written of_product t member (written t is value_is) c.front c.front_is in
        let y = product_written ts members more values x.tree (s2 x.tree x.form) x.grammar c.back c.back_is in
        let whole : all_built (product_members y.tree) ≡ t ∷ list_of ts = y.is ∙ ap (λ us. all_built us ++ list_of ts) (one_product x.tree x.form) ∙ ap (λ u. u ∷ list_of ts) x.is in
        record {
          tree = y.tree;
          tokens = y.tokens ∙ ap (λ z. z ++ c.back) x.tokens ∙ c.is;
          form = y.form;
          grammar = y.grammar;
          is = ap built (product_shown y.tree (y.two (some_two t ts two))) ∙ ap (λ us. product_of R same us) whole ∙ product_kept R L same test (MoreTerms t ts) two (member, members);
        }
      where
        some_two : (t : Term V) (ts : Terms V) → AreMany (MoreTerms t ts) → AreMany (MoreTerms Zero ts)
        some_two t NoTerms two = two
        some_two t (MoreTerms u us) two = two
    written (Star t) (full, h) (v, vs) ms e =
        let c = cut ms (operand of_star t (pieces_of canonical t)) (record { kind = kinds.Star; text = codes "*" } ∷ []) e in
        let s = first c.back (record { kind = kinds.Star; text = codes "*" }) [] c.back_is in
        let x = operand_written of_star t tt (written t h vs) c.front c.front_is in
        let last : s.mark ∷ [] ≡ c.back = ap (λ y. s.mark ∷ y) (no_more s.back s.back_is) ∙ s.is in
        record {
          tree = star x.tree s.mark;
          tokens = ap₂ (λ y z. y ++ z) x.tokens last ∙ c.is;
          form = refl;
          grammar = ((x.form, x.grammar), s.kind);
          is = ap (λ u. star_of u) x.is ∙ star_kept t full;
        }
    written (Weight k t) ((zero, one, body), h) (v, vs) ms e =
        let f = first ms (weight_piece canonical k) (operand of_weight t (pieces_of canonical t)) e in
        let x = operand_written of_weight t tt (written t h vs) f.back f.back_is in
        let r = weight_read k f.mark v f.text in
        record {
          tree = weight_before f.mark x.tree;
          tokens = ap (λ y. f.mark ∷ y) x.tokens ∙ f.is;
          form = refl;
          grammar = ((f.kind, r.0), (x.form, x.grammar));
          is = ap₂ (λ j u. weight_of R same j u) r.1 x.is ∙ weight_kept R L same test k t zero one body;
        }
    written (Both t u) ((full, full2), h, h2) (v, vs, vs2) ms e =
        let c = cut ms (operand left_of_and t (pieces_of canonical t)) (record { kind = kinds.And; text = codes "&" } ∷ operand right_of_and u (pieces_of canonical u)) e in
        let s = first c.back (record { kind = kinds.And; text = codes "&" }) (operand right_of_and u (pieces_of canonical u)) c.back_is in
        let x = operand_written left_of_and t tt (written t h vs) c.front c.front_is in
        let y = operand_written right_of_and u tt (written u h2 vs2) s.back s.back_is in
        record {
          tree = both x.tree s.mark y.tree;
          tokens = ap₂ (λ p q. p ++ s.mark ∷ q) x.tokens y.tokens ∙ ap (λ q. c.front ++ q) s.is ∙ c.is;
          form = refl;
          grammar = ((x.form, x.grammar), s.kind, (y.form, y.grammar));
          is = ap₂ (λ p q. both_of p q) x.is y.is ∙ both_kept t u full full2;
        }
    written (Shuffle t u) ((full, full2), h, h2) (v, vs, vs2) ms e =
        let c = cut ms (operand left_of_shuffle t (pieces_of canonical t)) (record { kind = kinds.Shuffle; text = codes ":" } ∷ operand right_of_shuffle u (pieces_of canonical u)) e in
        let s = first c.back (record { kind = kinds.Shuffle; text = codes ":" }) (operand right_of_shuffle u (pieces_of canonical u)) c.back_is in
        let x = operand_written left_of_shuffle t tt (written t h vs) c.front c.front_is in
        let y = operand_written right_of_shuffle u tt (written u h2 vs2) s.back s.back_is in
        record {
          tree = shuffle x.tree s.mark y.tree;
          tokens = ap₂ (λ p q. p ++ s.mark ∷ q) x.tokens y.tokens ∙ ap (λ q. c.front ++ q) s.is ∙ c.is;
          form = refl;
          grammar = ((x.form, x.grammar), s.kind, (y.form, y.grammar));
          is = ap₂ (λ p q. shuffle_of p q) x.is y.is ∙ shuffle_kept t u full full2;
        }

    -- further members of a sum behind a tree
    pub sum_written : (ts : Terms V) → AreMembers ts → EverywhereIn (IsBuiltRoot R same) ts → EverywhereIn (HasRootValues R) ts → (x : Tree) → is_sum x ≡ true → InGrammar is_weight x
        → (ms : List Mark) → map piece_of ms ≡ more_pieces canonical ts → SumBehind x ms ts
    sum_written NoTerms m h v x form grammar ms e = record {
      tree = x;
      tokens = sym (append-nil (tokens_of x)) ∙ ap (λ y. tokens_of x ++ y) (no_more ms e);
      grammar = grammar;
      two = λ two. absurd two;
      kept = λ p. p;
      is = sym (append-nil (all_built (sum_members x)));
    }
    sum_written (MoreTerms t ts) (member, members) (is, more) (value_is, values) x form grammar ms e =
        let p = first ms (record { kind = kinds.Plus; text = codes "+" }) (pieces_of canonical t ++ more_pieces canonical ts) e in
        let c = cut p.back (pieces_of canonical t) (more_pieces canonical ts) p.back_is in
        let u = written t is value_is c.front c.front_is in
        let y = sum_written ts members more values (plus x p.mark u.tree) refl ((form, grammar), p.kind, (member_form t member u.tree u.form, u.grammar)) c.back c.back_is in
        record {
          tree = y.tree;
          tokens =
              y.tokens ∙ append_assoc (tokens_of x) (p.mark ∷ tokens_of u.tree) c.back
              ∙ ap (λ z. tokens_of x ++ p.mark ∷ z) (ap (λ z. z ++ c.back) u.tokens ∙ c.is) ∙ ap (λ z. tokens_of x ++ z) p.is;
          grammar = y.grammar;
          two = λ two. y.kept refl;
          kept = λ q. y.kept refl;
          is =
              y.is ∙ ap (λ us. us ++ list_of ts) (built_append R L same test (sum_members x) (MoreTerms (shown u.tree) NoTerms))
              ∙ append_assoc (all_built (sum_members x)) (built (shown u.tree) ∷ []) (list_of ts)
              ∙ ap (λ v. all_built (sum_members x) ++ v ∷ list_of ts) u.is;
        }

    -- further factors of a product behind a tree
    pub product_written : (ts : Terms V) → AreFactors ts → EverywhereIn (IsBuiltRoot R same) ts → EverywhereIn (HasRootValues R) ts → (x : Tree) → is_product x ≡ true → InGrammar is_weight x
        → (ms : List Mark) → map piece_of ms ≡ product_pieces canonical ts → ProductBehind x ms ts
    product_written NoTerms m h v x form grammar ms e = record {
      tree = x;
      tokens = sym (append-nil (tokens_of x)) ∙ ap (λ y. tokens_of x ++ y) (no_more ms e);
      form = form;
      grammar = grammar;
      two = λ two. absurd two;
      kept = λ p. p;
      is = sym (append-nil (all_built (product_members x)));
    }
    product_written (MoreTerms t ts) (member, members) (is, more) (value_is, values) x form grammar ms e =
        let c = cut ms (operand of_product t (pieces_of canonical t)) (product_pieces canonical ts) e in
        let u = operand_written of_product t member (written t is value_is) c.front c.front_is in
        let y = product_written ts members more values (times x u.tree) refl ((form, grammar), (u.form, u.grammar)) c.back c.back_is in
        record {
          tree = y.tree;
          tokens = y.tokens ∙ append_assoc (tokens_of x) (tokens_of u.tree) c.back ∙ ap (λ z. tokens_of x ++ z) (ap (λ z. z ++ c.back) u.tokens ∙ c.is);
          form = y.form;
          grammar = y.grammar;
          two = λ two. y.kept refl;
          kept = λ q. y.kept refl;
          is =
              y.is ∙ ap (λ us. us ++ list_of ts) (built_append R L same test (product_members x) (MoreTerms (shown u.tree) NoTerms))
              ∙ append_assoc (all_built (product_members x)) (built (shown u.tree) ∷ []) (list_of ts)
              ∙ ap (λ v. all_built (product_members x) ++ v ∷ list_of ts) u.is;
        }
