-- What is left to write of an expression.
use Rattle.std.proofs.Common.{◌≡◌, ◌<◌, ◌≤◌, ◌+◌, ℕ, Bool, true, false, nat_lt, List, [], ◌∷◌, ◌++◌, All, Result, Ok, Err, OnOk, codes, refl, ap, ap₂, sym, subst, ◌∙◌, append_assoc, append-nil, arith}
use Rattle.std.specs.Prelude.{if◌then◌else◌}
use Rattle.std.specs.List.{flat_map}
use Rattle.std.specs.Borrow.{Bor}
use Rattle.std.proofs.lemmas.List.Elements.{All-head, All-tail}
use Rattle.std.proofs.lemmas.Bool.Decides.{nat_tests}
use Rattle.vc_expr.specs.Names.{Has, tree_of, trees_of}
use Rattle.vc_expr.specs.declared.expr.Expr.{Expr}
use Rattle.vc_label.specs.declared.tape_set.TapeSet.{TapeSet}
use Rattle.vc_model.specs.Words.{Word}
use Rattle.vc_terms.specs.Forms.{Everywhere, EverywhereIn}
use Rattle.vc_terms.specs.Terms.{Term, Atom, Sum, Product, Star, Weight, Both, Shuffle, NoTerms, terms_of}
use Rattle.vc_exprio.specs.Canonical.{Piece, part_piece, bar_pieces, label_pieces, Place, of_star, of_weight, of_product, left_of_and, right_of_and, left_of_shuffle, right_of_shuffle, has_parentheses, in_parentheses, operand, pieces_of, more_pieces, product_pieces, expression_text, IsRootOver}
use Rattle.vc_exprio.specs.Writing.{rank, rank_of, label_part, label_text, operand_text, item_text, left, IsPending, ArePending, work, work_all, item_work, work_left}
use Rattle.vc_exprio.specs.declared.form.Form.{Form}
use Rattle.vc_exprio.specs.declared.form.Form.TheVariants as form
use Rattle.vc_exprio.specs.declared.writer.Pending.{Pending}
use Rattle.vc_exprio.specs.declared.writer.Pending.TheVariants.{Byte, Operand, Members, Factors}

pub on_ok : {A E : Type 0} (r : Result A E) (P Q : Type 0) → (P → Q) → OnOk r P → OnOk r Q
on_ok (Ok a) P Q f h = f h
on_ok (Err e) P Q f h = h

-- ---- the texts of the forms

abbrev texts : List Piece → List ℕ
texts ps = flat_map (λ p. p.text) ps

texts_append : (ps qs : List Piece) → texts (ps ++ qs) ≡ texts ps ++ texts qs
texts_append [] qs = refl
texts_append (p ∷ ps) qs = ap (λ t. p.text ++ t) (texts_append ps qs) ∙ sym (append_assoc p.text (texts ps) (texts qs))

bars_text : (w : Word) → texts (bar_pieces w) ≡ flat_map (λ b. 124 ∷ label_part b) w
bars_text [] = refl
bars_text (a ∷ w) = ap (λ t. 124 ∷ ((part_piece a).text ++ t)) (bars_text w)

pub label_is : (w : Word) → texts (label_pieces w) ≡ label_text w
label_is [] = refl
label_is (a ∷ w) = ap (λ t. (part_piece a).text ++ t) (bars_text w)

-- the rank of the loosest form that may stand at a place without parentheses
abbrev least : Place → ℕ
least of_star = 5
least of_weight = 4
least of_product = 3
least left_of_and = 2
least right_of_and = 3
least left_of_shuffle = 1
least right_of_shuffle = 2

by_rank : {V : Type 0} (place : Place) (t : Term V) → has_parentheses place t ≡ nat_lt (rank_of t) (least place)
by_rank of_star (Sum ts) = refl
by_rank of_star t = refl
by_rank of_weight (Sum ts) = refl
by_rank of_weight t = refl
by_rank of_product (Sum ts) = refl
by_rank of_product t = refl
by_rank left_of_and (Sum ts) = refl
by_rank left_of_and t = refl
by_rank right_of_and (Sum ts) = refl
by_rank right_of_and t = refl
by_rank left_of_shuffle (Sum ts) = refl
by_rank left_of_shuffle t = refl
by_rank right_of_shuffle (Sum ts) = refl
by_rank right_of_shuffle t = refl

module _ {V : Type 0} (canonical : V → List ℕ) where
  abbrev text_of : Term V → List ℕ
  text_of t = expression_text canonical t

  operand_is : (place : Place) (t : Term V) → texts (operand place t (pieces_of canonical t)) ≡ operand_text canonical (least place) t
  operand_is place t = go (has_parentheses place t) ∙ ap (λ b. if b then 40 ∷ (text_of t ++ 41 ∷ []) else text_of t) (by_rank place t)
    where
      go : (b : Bool) → texts (if b then in_parentheses (pieces_of canonical t) else pieces_of canonical t) ≡ (if b then 40 ∷ (text_of t ++ 41 ∷ []) else text_of t)
      go true = ap (λ x. 40 ∷ x) (texts_append (pieces_of canonical t) (record { kind = _; text = codes ")" } ∷ []))
      go false = refl

  -- no operand is looser than a sum
  pub alone : (t : Term V) → operand_text canonical 0 t ≡ text_of t
  alone (Sum ts) = refl
  alone t = refl

  star_text : (t : Term V) → text_of (Star t) ≡ operand_text canonical 5 t ++ 42 ∷ []
  star_text t = texts_append (operand of_star t (pieces_of canonical t)) _ ∙ ap (λ x. x ++ 42 ∷ []) (operand_is of_star t)

  weight_text : (k : V) (t : Term V) → text_of (Weight k t) ≡ (60 ∷ (canonical k ++ 62 ∷ [])) ++ operand_text canonical 4 t
  weight_text k t = ap (λ x. (60 ∷ (canonical k ++ 62 ∷ [])) ++ x) (operand_is of_weight t)

  both_text : (t u : Term V) → text_of (Both t u) ≡ operand_text canonical 2 t ++ 38 ∷ operand_text canonical 3 u
  both_text t u = texts_append (operand left_of_and t (pieces_of canonical t)) _ ∙ ap₂ (λ x y. x ++ 38 ∷ y) (operand_is left_of_and t) (operand_is right_of_and u)

  shuffle_text : (t u : Term V) → text_of (Shuffle t u) ≡ operand_text canonical 1 t ++ 58 ∷ operand_text canonical 2 u
  shuffle_text t u = texts_append (operand left_of_shuffle t (pieces_of canonical t)) _ ∙ ap₂ (λ x y. x ++ 58 ∷ y) (operand_is left_of_shuffle t) (operand_is right_of_shuffle u)

  module _ (s : List (Term V)) where
    members_text : (es : List Expr) → texts (more_pieces canonical (terms_of (trees_of s es))) ≡ flat_map (λ e. 43 ∷ text_of (tree_of s e)) es
    members_text [] = refl
    members_text (e ∷ es) = ap (λ x. 43 ∷ x) (texts_append (pieces_of canonical (tree_of s e)) (more_pieces canonical (terms_of (trees_of s es))) ∙ ap (λ x. text_of (tree_of s e) ++ x) (members_text es))

    sum_text : (e : Expr) (es : List Expr) → text_of (Sum (terms_of (trees_of s (e ∷ es)))) ≡ text_of (tree_of s e) ++ flat_map (λ e. 43 ∷ text_of (tree_of s e)) es
    sum_text e es = texts_append (pieces_of canonical (tree_of s e)) (more_pieces canonical (terms_of (trees_of s es))) ∙ ap (λ x. text_of (tree_of s e) ++ x) (members_text es)

    product_text : (es : List Expr) → text_of (Product (terms_of (trees_of s es))) ≡ flat_map (λ e. operand_text canonical 3 (tree_of s e)) es
    product_text [] = refl
    product_text (e ∷ es) =
        texts_append (operand of_product (tree_of s e) (pieces_of canonical (tree_of s e))) (product_pieces canonical (terms_of (trees_of s es)))
        ∙ ap₂ (λ x y. x ++ y) (operand_is of_product (tree_of s e)) (product_text es)

    -- ---- one item more

    left_push : (items : List Pending) (x : Pending) → left canonical s (items ++ x ∷ []) ≡ item_text canonical s x ++ left canonical s items
    left_push [] x = sym (append-nil (item_text canonical s x))
    left_push (y ∷ items) x = ap (λ t. t ++ item_text canonical s y) (left_push items x) ∙ append_assoc (item_text canonical s x) (left canonical s items) (item_text canonical s y)

    pub left_pushed : (old new : List Pending) (x : Pending) → new ≡ old ++ x ∷ [] → left canonical s new ≡ item_text canonical s x ++ left canonical s old
    left_pushed old new x e = ap (left canonical s) e ∙ left_push old x

    work_push : (items : List Pending) (x : Pending) → work_left s (items ++ x ∷ []) ≡ item_work s x + work_left s items
    work_push [] x = refl
    work_push (y ∷ items) x = let e = work_push items x in ap (λ n. item_work s y + n) e ∙ omega arith

    pub work_pushed : (old new : List Pending) (x : Pending) → new ≡ old ++ x ∷ [] → work_left s new ≡ item_work s x + work_left s old
    work_pushed old new x e = ap (work_left s) e ∙ work_push old x

    module _ (sets : List TapeSet) where
      are_push : (items : List Pending) (x : Pending) → ArePending sets s items → IsPending sets s x → ArePending sets s (items ++ x ∷ [])
      are_push [] x h k = (k, tt)
      are_push (y ∷ items) x h k = (h.0, are_push items x h.1 k)

      pub are_pushed : (old new : List Pending) (x : Pending) → new ≡ old ++ x ∷ [] → ArePending sets s old → IsPending sets s x → ArePending sets s new
      are_pushed old new x e h k = subst (ArePending sets s) (sym e) (are_push old x h k)

      pub last_pending : (items : List Pending) (x : Pending) → ArePending sets s (items ++ x ∷ []) → ArePending sets s items × IsPending sets s x
      last_pending [] x h = (tt, h.0)
      last_pending (y ∷ items) x h = let r = last_pending items x h.1 in ((h.0, r.0), r.1)

      -- what a node begins with was written, and what is left of it was put
      pub record Put (written : List ℕ) (t : Term V) (old new : List Pending) : Type 0 where
        pub text : written ++ left canonical s new ≡ text_of t ++ left canonical s old
        pub pending : ArePending sets s new
        pub work : work_left s new + 2 ≤ work t + work_left s old

      pub star_put : (t : Term V) (e : Expr) (old n1 n2 : List Pending) → t ≡ Star (tree_of s e) → Has s e → Everywhere (IsRootOver sets) t → ArePending sets s old
          → n1 ≡ old ++ Byte 42 ∷ [] → n2 ≡ n1 ++ Operand form.Postfixed e ∷ [] → Put [] t old n2
      star_put t e old n1 n2 is has over are e1 e2 =
          let part : Everywhere (IsRootOver sets) (tree_of s e) = (subst (Everywhere (IsRootOver sets)) is over).1 in
          let a1 = are_pushed old n1 (Byte 42) e1 are (omega arith) in
          let w1 = work_pushed old n1 (Byte 42) e1 in
          let w2 = work_pushed n1 n2 (Operand form.Postfixed e) e2 in
          let w : work t ≡ work (tree_of s e) + 3 = ap work is in
          record {
            text = left_pushed n1 n2 (Operand form.Postfixed e) e2 ∙ ap (λ x. operand_text canonical 5 (tree_of s e) ++ x) (left_pushed old n1 (Byte 42) e1)
                ∙ sym (append_assoc (operand_text canonical 5 (tree_of s e)) (42 ∷ []) (left canonical s old)) ∙ ap (λ x. x ++ left canonical s old) (sym (star_text (tree_of s e)) ∙ sym (ap text_of is));
            pending = are_pushed n1 n2 (Operand form.Postfixed e) e2 a1 (has, part);
            work = omega (arith, w1, w2, w);
          }

      pub weight_put : (t : Term V) (k : V) (e : Expr) (old new : List Pending) → t ≡ Weight k (tree_of s e) → Has s e → Everywhere (IsRootOver sets) t → ArePending sets s old
          → new ≡ old ++ Operand form.Prefixed e ∷ [] → Put (60 ∷ (canonical k ++ 62 ∷ [])) t old new
      weight_put t k e old new is has over are e1 =
          let part : Everywhere (IsRootOver sets) (tree_of s e) = (subst (Everywhere (IsRootOver sets)) is over).1 in
          let w1 = work_pushed old new (Operand form.Prefixed e) e1 in
          let w : work t ≡ work (tree_of s e) + 3 = ap work is in
          record {
            text = ap (λ x. (60 ∷ (canonical k ++ 62 ∷ [])) ++ x) (left_pushed old new (Operand form.Prefixed e) e1)
                ∙ sym (append_assoc (60 ∷ (canonical k ++ 62 ∷ [])) (operand_text canonical 4 (tree_of s e)) (left canonical s old)) ∙ ap (λ x. x ++ left canonical s old) (sym (weight_text k (tree_of s e)) ∙ sym (ap text_of is));
            pending = are_pushed old new (Operand form.Prefixed e) e1 are (has, part);
            work = omega (arith, w1, w);
          }

      two_text : (a b : Expr) (f g : Form) (x : ℕ) (old n1 n2 n3 : List Pending) → n1 ≡ old ++ Operand g b ∷ [] → n2 ≡ n1 ++ Byte x ∷ [] → n3 ≡ n2 ++ Operand f a ∷ []
          → left canonical s n3 ≡ (operand_text canonical (rank f) (tree_of s a) ++ x ∷ operand_text canonical (rank g) (tree_of s b)) ++ left canonical s old
      two_text a b f g x old n1 n2 n3 e1 e2 e3 =
          left_pushed n2 n3 (Operand f a) e3
          ∙ ap (λ y. operand_text canonical (rank f) (tree_of s a) ++ y) (left_pushed n1 n2 (Byte x) e2 ∙ ap (λ y. x ∷ y) (left_pushed old n1 (Operand g b) e1))
          ∙ sym (append_assoc (operand_text canonical (rank f) (tree_of s a)) (x ∷ operand_text canonical (rank g) (tree_of s b)) (left canonical s old))

      pub both_put : (t : Term V) (a b : Expr) (old n1 n2 n3 : List Pending) → t ≡ Both (tree_of s a) (tree_of s b) → Has s a → Has s b → Everywhere (IsRootOver sets) t → ArePending sets s old
          → n1 ≡ old ++ Operand form.Product b ∷ [] → n2 ≡ n1 ++ Byte 38 ∷ [] → n3 ≡ n2 ++ Operand form.Conjunction a ∷ [] → Put [] t old n3
      both_put t a b old n1 n2 n3 is has has2 over are e1 e2 e3 =
          let parts = subst (Everywhere (IsRootOver sets)) is over in
          let a1 = are_pushed old n1 (Operand form.Product b) e1 are (has2, parts.2) in
          let a2 = are_pushed n1 n2 (Byte 38) e2 a1 (omega arith) in
          let w1 = work_pushed old n1 (Operand form.Product b) e1 in
          let w2 = work_pushed n1 n2 (Byte 38) e2 in
          let w3 = work_pushed n2 n3 (Operand form.Conjunction a) e3 in
          let w : work t ≡ work (tree_of s a) + work (tree_of s b) + 4 = ap work is in
          record {
            text = two_text a b form.Conjunction form.Product 38 old n1 n2 n3 e1 e2 e3 ∙ ap (λ x. x ++ left canonical s old) (sym (both_text (tree_of s a) (tree_of s b)) ∙ sym (ap text_of is));
            pending = are_pushed n2 n3 (Operand form.Conjunction a) e3 a2 (has, parts.1);
            work = omega (arith, w1, w2, w3, w);
          }

      pub shuffle_put : (t : Term V) (a b : Expr) (old n1 n2 n3 : List Pending) → t ≡ Shuffle (tree_of s a) (tree_of s b) → Has s a → Has s b → Everywhere (IsRootOver sets) t → ArePending sets s old
          → n1 ≡ old ++ Operand form.Conjunction b ∷ [] → n2 ≡ n1 ++ Byte 58 ∷ [] → n3 ≡ n2 ++ Operand form.Shuffle a ∷ [] → Put [] t old n3
      shuffle_put t a b old n1 n2 n3 is has has2 over are e1 e2 e3 =
          let parts = subst (Everywhere (IsRootOver sets)) is over in
          let a1 = are_pushed old n1 (Operand form.Conjunction b) e1 are (has2, parts.2) in
          let a2 = are_pushed n1 n2 (Byte 58) e2 a1 (omega arith) in
          let w1 = work_pushed old n1 (Operand form.Conjunction b) e1 in
          let w2 = work_pushed n1 n2 (Byte 58) e2 in
          let w3 = work_pushed n2 n3 (Operand form.Shuffle a) e3 in
          let w : work t ≡ work (tree_of s a) + work (tree_of s b) + 4 = ap work is in
          record {
            text = two_text a b form.Shuffle form.Conjunction 58 old n1 n2 n3 e1 e2 e3 ∙ ap (λ x. x ++ left canonical s old) (sym (shuffle_text (tree_of s a) (tree_of s b)) ∙ sym (ap text_of is));
            pending = are_pushed n2 n3 (Operand form.Shuffle a) e3 a2 (has, parts.1);
            work = omega (arith, w1, w2, w3, w);
          }

      -- the first of some names, and the others
      pub record Names (es : List Expr) (e : Expr) (others : List Expr) : Type 0 where
        pub has : Has s e
        pub over : Everywhere (IsRootOver sets) (tree_of s e)
        pub others_have : All (Has s) others
        pub others_over : EverywhereIn (IsRootOver sets) (terms_of (trees_of s others))

      pub names_split : (es : List Expr) (e : Expr) (others : List Expr) → es ≡ e ∷ others → All (Has s) es → EverywhereIn (IsRootOver sets) (terms_of (trees_of s es)) → Names es e others
      names_split es e others is has over =
          let h : All (Has s) (e ∷ others) = subst (All (Has s)) is has in
          let o : EverywhereIn (IsRootOver sets) (terms_of (trees_of s (e ∷ others))) = subst (λ x. EverywhereIn (IsRootOver sets) (terms_of (trees_of s x))) is over in
          record { has = All-head (Has s) e others h; over = o.0; others_have = All-tail (Has s) e others h; others_over = o.1 }

      pub sum_put : (t : Term V) (es : List Expr) (e : Expr) (others : Bor (List Expr)) (old n1 n2 : List Pending) → t ≡ Sum (terms_of (trees_of s es)) → All (Has s) es → es ≡ e ∷ others.now
          → Everywhere (IsRootOver sets) t → ArePending sets s old → n1 ≡ old ++ Members others ∷ [] → n2 ≡ n1 ++ Operand form.Sum e ∷ [] → Put [] t old n2
      sum_put t es e others old n1 n2 is has split over are e1 e2 =
          let parts = subst (Everywhere (IsRootOver sets)) is over in
          let n = names_split es e others.now split has parts.1 in
          let is2 : t ≡ Sum (terms_of (trees_of s (e ∷ others.now))) = is ∙ ap (λ x. Sum (terms_of (trees_of s x))) split in
          let a1 = are_pushed old n1 (Members others) e1 are (n.others_have, n.others_over) in
          let w1 = work_pushed old n1 (Members others) e1 in
          let w2 = work_pushed n1 n2 (Operand form.Sum e) e2 in
          let w : work t ≡ work (tree_of s e) + 1 + work_all (terms_of (trees_of s others.now)) + 3 = ap work is2 in
          record {
            text = left_pushed n1 n2 (Operand form.Sum e) e2 ∙ ap₂ (λ x y. x ++ y) (alone (tree_of s e)) (left_pushed old n1 (Members others) e1)
                ∙ sym (append_assoc (text_of (tree_of s e)) (item_text canonical s (Members others)) (left canonical s old)) ∙ ap (λ x. x ++ left canonical s old) (sym (sum_text e others.now) ∙ sym (ap text_of is2));
            pending = are_pushed n1 n2 (Operand form.Sum e) e2 a1 (n.has, n.over);
            work = omega (arith, w1, w2, w);
          }

      pub no_sum : (t : Term V) (es : List Expr) (old : List Pending) → t ≡ Sum (terms_of (trees_of s es)) → es ≡ [] → ArePending sets s old → Put [] t old old
      no_sum t es old is none are =
          let is2 : t ≡ Sum NoTerms = is ∙ ap (λ x. Sum (terms_of (trees_of s x))) none in
          let w : work t ≡ 3 = ap work is2 in
          record { text = ap (λ x. x ++ left canonical s old) (sym (ap text_of is2)); pending = are; work = omega (arith, w) }

      pub product_put : (t : Term V) (es : Bor (List Expr)) (old new : List Pending) → t ≡ Product (terms_of (trees_of s es.now)) → All (Has s) es.now
          → Everywhere (IsRootOver sets) t → ArePending sets s old → new ≡ old ++ Factors es ∷ [] → Put [] t old new
      product_put t es old new is has over are e1 =
          let parts = subst (Everywhere (IsRootOver sets)) is over in
          let w1 = work_pushed old new (Factors es) e1 in
          let w : work t ≡ work_all (terms_of (trees_of s es.now)) + 3 = ap work is in
          record {
            text = left_pushed old new (Factors es) e1 ∙ ap (λ x. x ++ left canonical s old) (sym (product_text es.now) ∙ sym (ap text_of is));
            pending = are_pushed old new (Factors es) e1 are (has, parts.1);
            work = omega (arith, w1, w);
          }

      pub atom_put : (t : Term V) (w : Word) (old : List Pending) → t ≡ Atom w → ArePending sets s old → Put (label_text w) t old old
      atom_put t w old is are =
          let n : work t ≡ 3 = ap work is in
          record { text = ap (λ x. x ++ left canonical s old) (sym (label_is w) ∙ sym (ap text_of is)); pending = are; work = omega (arith, n) }

-- ---- operands and items

pub is_looser : (a b m n : ℕ) → a ≡ m → b ≡ n → a < b → nat_lt m n ≡ true
is_looser a b m n e f h = grind (arith, nat_tests)

module _ {V : Type 0} (canonical : V → List ℕ) (s : List (Term V)) where
  pub group_text : (t : Term V) (k : ℕ) (b0 b1 b2 : List ℕ) (old n1 new : List Pending) → nat_lt (rank_of t) k ≡ true → b1 ≡ b0 ++ 40 ∷ [] → n1 ≡ old ++ Byte 41 ∷ []
      → b2 ++ left canonical s new ≡ b1 ++ (expression_text canonical t ++ left canonical s n1) → b2 ++ left canonical s new ≡ b0 ++ (operand_text canonical k t ++ left canonical s old)
  group_text t k b0 b1 b2 old n1 new looser e1 e2 h =
      let text = expression_text canonical t in
      h ∙ ap (λ b. b ++ (text ++ left canonical s n1)) e1 ∙ append_assoc b0 (40 ∷ []) (text ++ left canonical s n1)
      ∙ ap (λ x. b0 ++ 40 ∷ (text ++ x)) (left_pushed canonical s old n1 (Byte 41) e2) ∙ ap (λ x. b0 ++ 40 ∷ x) (sym (append_assoc text (41 ∷ []) (left canonical s old)))
      ∙ sym (ap (λ b. b0 ++ ((if b then 40 ∷ (text ++ 41 ∷ []) else text) ++ left canonical s old)) looser)

  pub group_work : (t : Term V) (old n1 new : List Pending) → n1 ≡ old ++ Byte 41 ∷ [] → work_left s new + 2 ≤ work t + work_left s n1 → work_left s new < work t + work_left s old
  group_work t old n1 new e h = let w = work_pushed canonical s old n1 (Byte 41) e in omega (arith, w, h)

  pub members_step : (es : List Expr) (e : Expr) (others : Bor (List Expr)) (b0 b1 b2 : List ℕ) (old n1 new : List Pending) → es ≡ e ∷ others.now → b1 ≡ b0 ++ 43 ∷ [] → n1 ≡ old ++ Members others ∷ []
      → b2 ++ left canonical s new ≡ b1 ++ (expression_text canonical (tree_of s e) ++ left canonical s n1)
      → b2 ++ left canonical s new ≡ b0 ++ (flat_map (λ e. 43 ∷ expression_text canonical (tree_of s e)) es ++ left canonical s old)
  members_step es e others b0 b1 b2 old n1 new split e1 e2 h =
      let text = expression_text canonical (tree_of s e) in
      let rest = item_text canonical s (Members others) in
      h ∙ ap (λ b. b ++ (text ++ left canonical s n1)) e1 ∙ append_assoc b0 (43 ∷ []) (text ++ left canonical s n1)
      ∙ ap (λ x. b0 ++ 43 ∷ (text ++ x)) (left_pushed canonical s old n1 (Members others) e2) ∙ ap (λ x. b0 ++ 43 ∷ x) (sym (append_assoc text rest (left canonical s old)))
      ∙ sym (ap (λ xs. b0 ++ (flat_map (λ e. 43 ∷ expression_text canonical (tree_of s e)) xs ++ left canonical s old)) split)

  pub members_work : (es : List Expr) (e : Expr) (others : Bor (List Expr)) (old n1 new : List Pending) → es ≡ e ∷ others.now → n1 ≡ old ++ Members others ∷ []
      → work_left s new + 2 ≤ work (tree_of s e) + work_left s n1 → work_left s new < work_all (terms_of (trees_of s es)) + 1 + work_left s old
  members_work es e others old n1 new split e1 h =
      let w = work_pushed canonical s old n1 (Members others) e1 in
      let all : work_all (terms_of (trees_of s es)) ≡ work (tree_of s e) + 1 + work_all (terms_of (trees_of s others.now)) = ap (λ xs. work_all (terms_of (trees_of s xs))) split in
      omega (arith, w, all, h)

  pub factors_step : (es : List Expr) (e : Expr) (others : Bor (List Expr)) (b0 b2 : List ℕ) (old n1 new : List Pending) → es ≡ e ∷ others.now → n1 ≡ old ++ Factors others ∷ []
      → b2 ++ left canonical s new ≡ b0 ++ (operand_text canonical 3 (tree_of s e) ++ left canonical s n1)
      → b2 ++ left canonical s new ≡ b0 ++ (flat_map (λ e. operand_text canonical 3 (tree_of s e)) es ++ left canonical s old)
  factors_step es e others b0 b2 old n1 new split e1 h =
      let text = operand_text canonical 3 (tree_of s e) in
      let rest = item_text canonical s (Factors others) in
      h ∙ ap (λ x. b0 ++ (text ++ x)) (left_pushed canonical s old n1 (Factors others) e1) ∙ ap (λ x. b0 ++ x) (sym (append_assoc text rest (left canonical s old)))
      ∙ sym (ap (λ xs. b0 ++ (flat_map (λ e. operand_text canonical 3 (tree_of s e)) xs ++ left canonical s old)) split)

  pub factors_work : (es : List Expr) (e : Expr) (others : Bor (List Expr)) (old n1 new : List Pending) → es ≡ e ∷ others.now → n1 ≡ old ++ Factors others ∷ []
      → work_left s new < work (tree_of s e) + work_left s n1 → work_left s new < work_all (terms_of (trees_of s es)) + 1 + work_left s old
  factors_work es e others old n1 new split e1 h =
      let w = work_pushed canonical s old n1 (Factors others) e1 in
      let all : work_all (terms_of (trees_of s es)) ≡ work (tree_of s e) + 1 + work_all (terms_of (trees_of s others.now)) = ap (λ xs. work_all (terms_of (trees_of s xs))) split in
      omega (arith, w, all, h)
