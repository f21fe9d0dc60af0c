-- What is in the grammar is read by the machine.
use Rattle.std.proofs.Common.{◌≡◌, Bool, true, false, List, [], ◌∷◌, ◌++◌, Option, Some, None, refl, ap, sym, ◌∙◌, append_assoc, append-nil}
use Rattle.std.specs.Prelude.{if◌then◌else◌}
use Rattle.std.specs.Option.{option_and_then}
use Rattle.vc_lex.specs.declared.token.TokenKind.{TokenKind}
use Rattle.vc_lex.specs.declared.token.TokenKind.TheVariants.{Zero, One, Letter, Quoted, Class, Weight, Star, And, Shuffle, Plus, Left, Right, Bar}
use Rattle.vc_lex.specs.Marks.{Mark}
use Rattle.vc_exprio.specs.Trees.{Tree, Barred, zero_tree, label, class, group, star, weight_behind, weight_before, times, both, shuffle, plus, tokens_of, barred_tokens}
use Rattle.vc_exprio.specs.Grammar.{is_postfixed, is_prefixed, is_product, is_conjunction, is_shuffle, is_part_kind, IsPart, AreBarred, IsWeight, InGrammar, SpellsTree}
use Rattle.vc_exprio.specs.Machine.{LeftSide, Head, weights, factors, Level, Outer, State, fresh, weighed, product_with, joined, sum_with, behind_factor, read, want, begin, step_wanted, step_after, step, run, finish, tree_of}

-- a token of this kind begins an operand
abbrev pub begins_kind : TokenKind → Bool
begins_kind Zero = true
begins_kind One = true
begins_kind Letter = true
begins_kind Quoted = true
begins_kind Class = true
begins_kind Left = true
begins_kind kind = false

abbrev pub level_of : Option LeftSide → Option LeftSide → Option LeftSide → Head → Level
level_of s h c f = record { sum = s; shuffled = h; conjunct = c; head = f }

module _ (is_weight : Mark → Bool) where
  pub run_append : (s n : State) (a b : List Mark) → run is_weight s a ≡ Some n → run is_weight s (a ++ b) ≡ run is_weight n b
  run_append s n [] b e = let same : s ≡ n = cc in ap (λ x. run is_weight x b) same
  run_append s n (m ∷ a) b e = go (step is_weight s m) (λ x f. run_append x n a b f) e
    where
      go : (next : Option State) → ((x : State) → run is_weight x a ≡ Some n → run is_weight x (a ++ b) ≡ run is_weight n b)
          → option_and_then (λ x. run is_weight x a) next ≡ Some n → option_and_then (λ x. run is_weight x (a ++ b)) next ≡ run is_weight n b
      go None f g = absurd (cc)
      go (Some x) f g = f x g

  wanted_begins : (o : List Outer) (l : Level) (m : Mark) (k : TokenKind) → begins_kind k ≡ true → step_wanted is_weight o l m k ≡ begin o l m k
  wanted_begins o l m Weight e = absurd (cc)
  wanted_begins o l m k e = refl

  after_begins : (o : List Outer) (l : Level) (t : Tree) (m : Mark) (k : TokenKind) → begins_kind k ≡ true → step_after is_weight o l t m k ≡ begin o (behind_factor l t) m k
  after_begins o l t m Star e = absurd (cc)
  after_begins o l t m Weight e = absurd (cc)
  after_begins o l t m And e = absurd (cc)
  after_begins o l t m Shuffle e = absurd (cc)
  after_begins o l t m Plus e = absurd (cc)
  after_begins o l t m Right e = absurd (cc)
  after_begins o l t m Bar e = absurd (cc)
  after_begins o l t m k e = refl

  -- ---- how a tree of each form is read

  -- where an operand may begin, the tokens make it the operand
  pub record ReadsOperand (t : Tree) : Type 0 where
    pub first : Mark
    pub rest : List Mark
    pub tokens : tokens_of t ≡ first ∷ rest
    pub begins : begins_kind first.kind ≡ true
    pub reads : (o : List Outer) (l : Level) → option_and_then (λ n. run is_weight n rest) (begin o l first first.kind) ≡ Some (read o l t)

  pub record ReadsPrefixed (t : Tree) : Type 0 where
    pub heads : List Mark
    pub operand : Tree
    pub is : weighed heads operand ≡ t
    pub reads : (o : List Outer) (s h c : Option LeftSide) (ms : List Mark)
        → run is_weight (want o (level_of s h c (weights ms))) (tokens_of t) ≡ Some (read o (level_of s h c (weights (ms ++ heads))) operand)

  pub record ReadsProduct (t : Tree) : Type 0 where
    pub head : Head
    pub operand : Tree
    pub is : product_with head operand ≡ t
    pub reads : (o : List Outer) (s h c : Option LeftSide)
        → run is_weight (want o (level_of s h c (weights []))) (tokens_of t) ≡ Some (read o (level_of s h c head) operand)

  pub record ReadsConjunction (t : Tree) : Type 0 where
    pub conjunct : Option LeftSide
    pub head : Head
    pub operand : Tree
    pub is : joined both conjunct (product_with head operand) ≡ t
    pub reads : (o : List Outer) (s h : Option LeftSide)
        → run is_weight (want o (level_of s h None (weights []))) (tokens_of t) ≡ Some (read o (level_of s h conjunct head) operand)

  pub record ReadsShuffle (t : Tree) : Type 0 where
    pub shuffled : Option LeftSide
    pub conjunct : Option LeftSide
    pub head : Head
    pub operand : Tree
    pub is : joined shuffle shuffled (joined both conjunct (product_with head operand)) ≡ t
    pub reads : (o : List Outer) (s : Option LeftSide)
        → run is_weight (want o (level_of s None None (weights []))) (tokens_of t) ≡ Some (read o (level_of s shuffled conjunct head) operand)

  pub record ReadsSum (t : Tree) : Type 0 where
    pub level : Level
    pub operand : Tree
    pub is : sum_with level operand ≡ t
    pub reads : (o : List Outer) → run is_weight (want o fresh) (tokens_of t) ≡ Some (read o level operand)

  -- ---- each form is a looser one

  pub operand_wanted : (t : Tree) → ReadsOperand t → (o : List Outer) (l : Level) → run is_weight (want o l) (tokens_of t) ≡ Some (read o l t)
  operand_wanted t r o l =
      ap (run is_weight (want o l)) r.tokens ∙ ap (option_and_then (λ n. run is_weight n r.rest)) (wanted_begins o l r.first r.first.kind r.begins) ∙ r.reads o l

  pub operand_after : (t u : Tree) → ReadsOperand t → (o : List Outer) (l : Level) → run is_weight (read o l u) (tokens_of t) ≡ Some (read o (behind_factor l u) t)
  operand_after t u r o l =
      ap (run is_weight (read o l u)) r.tokens ∙ ap (option_and_then (λ n. run is_weight n r.rest)) (after_begins o l u r.first r.first.kind r.begins) ∙ r.reads o (behind_factor l u)

  prefixed_lift : (t : Tree) → ReadsOperand t → ReadsPrefixed t
  prefixed_lift t r = record {
    heads = [];
    operand = t;
    is = refl;
    reads = λ o s h c ms. operand_wanted t r o (level_of s h c (weights ms)) ∙ ap (λ x. Some (read o (level_of s h c (weights x)) t)) (sym (append-nil ms));
  }

  product_lift : (t : Tree) → ReadsPrefixed t → ReadsProduct t
  product_lift t r = record { head = weights r.heads; operand = r.operand; is = r.is; reads = λ o s h c. r.reads o s h c [] }

  conjunction_lift : (t : Tree) → ReadsProduct t → ReadsConjunction t
  conjunction_lift t r = record { conjunct = None; head = r.head; operand = r.operand; is = r.is; reads = λ o s h. r.reads o s h None }

  shuffle_lift : (t : Tree) → ReadsConjunction t → ReadsShuffle t
  shuffle_lift t r = record { shuffled = None; conjunct = r.conjunct; head = r.head; operand = r.operand; is = r.is; reads = λ o s. r.reads o s None }

  sum_lift : (t : Tree) → ReadsShuffle t → ReadsSum t
  sum_lift t r = record { level = level_of None r.shuffled r.conjunct r.head; operand = r.operand; is = r.is; reads = λ o. r.reads o None }

  -- a tree is read in each form that it has
  pub record Reads (t : Tree) : Type 0 where
    pub operand : is_postfixed t ≡ true → ReadsOperand t
    pub prefixed : is_prefixed t ≡ true → ReadsPrefixed t
    pub product : is_product t ≡ true → ReadsProduct t
    pub conjunction : is_conjunction t ≡ true → ReadsConjunction t
    pub shuffle : is_shuffle t ≡ true → ReadsShuffle t
    pub sum : ReadsSum t

  by_operand : (t : Tree) → ReadsOperand t → Reads t
  by_operand t r =
      let p = prefixed_lift t r in
      let q = product_lift t p in
      let c = conjunction_lift t q in
      let h = shuffle_lift t c in
      record { operand = λ _. r; prefixed = λ _. p; product = λ _. q; conjunction = λ _. c; shuffle = λ _. h; sum = sum_lift t h }

  by_prefixed : (t : Tree) → is_postfixed t ≡ false → ReadsPrefixed t → Reads t
  by_prefixed t n p =
      let q = product_lift t p in
      let c = conjunction_lift t q in
      let h = shuffle_lift t c in
      record { operand = λ e. absurd (cc); prefixed = λ _. p; product = λ _. q; conjunction = λ _. c; shuffle = λ _. h; sum = sum_lift t h }

  by_product : (t : Tree) → is_postfixed t ≡ false → is_prefixed t ≡ false → ReadsProduct t → Reads t
  by_product t n n2 q =
      let c = conjunction_lift t q in
      let h = shuffle_lift t c in
      record { operand = λ e. absurd (cc); prefixed = λ e. absurd (cc); product = λ _. q; conjunction = λ _. c; shuffle = λ _. h; sum = sum_lift t h }

  -- ---- labels

  part_begins : (k : TokenKind) → is_part_kind k ≡ true → begins_kind k ≡ true
  part_begins Letter e = refl
  part_begins Quoted e = refl
  part_begins One e = refl
  part_begins k e = absurd (cc)

  part_begin : (o : List Outer) (l : Level) (m : Mark) (k : TokenKind) → is_part_kind k ≡ true → begin o l m k ≡ Some (read o l (label m []))
  part_begin o l m Letter e = refl
  part_begin o l m Quoted e = refl
  part_begin o l m One e = refl
  part_begin o l m k e = absurd (cc)

  barred_run : (o : List Outer) (l : Level) (m : Mark) (bs cs : List Barred) → AreBarred cs
      → run is_weight (read o l (label m bs)) (barred_tokens cs) ≡ Some (read o l (label m (bs ++ cs)))
  barred_run o l m bs [] are = ap (λ x. Some (read o l (label m x))) (sym (append-nil bs))
  barred_run o l m bs (c ∷ cs) (bar, part, are) =
      ap (λ k. option_and_then (λ n. run is_weight n (c.part ∷ barred_tokens cs)) (step_after is_weight o l (label m bs) c.bar k)) bar
      ∙ ap (λ b. option_and_then (λ n. run is_weight n (barred_tokens cs)) (if b then Some (read o l (label m (bs ++ record { bar = c.bar; part = c.part } ∷ []))) else None)) part
      ∙ barred_run o l m (bs ++ c ∷ []) cs are
      ∙ ap (λ x. Some (read o l (label m x))) (append_assoc bs (c ∷ []) cs)

  label_reads : (m : Mark) (bs : List Barred) → IsPart m → AreBarred bs → ReadsOperand (label m bs)
  label_reads m bs part are = record {
    first = m;
    rest = barred_tokens bs;
    tokens = refl;
    begins = part_begins m.kind part;
    reads = λ o l. ap (option_and_then (λ n. run is_weight n (barred_tokens bs))) (part_begin o l m m.kind part) ∙ barred_run o l m [] bs are;
  }

  -- ---- the other operands

  more : (o : List Outer) (l : Level) (t : Tree) (r : ReadsOperand t) (ms : List Mark)
      → option_and_then (λ n. run is_weight n (r.rest ++ ms)) (begin o l r.first r.first.kind) ≡ run is_weight (read o l t) ms
  more o l t r ms = go (begin o l r.first r.first.kind) (r.reads o l)
    where
      go : (next : Option State) → option_and_then (λ n. run is_weight n r.rest) next ≡ Some (read o l t)
          → option_and_then (λ n. run is_weight n (r.rest ++ ms)) next ≡ run is_weight (read o l t) ms
      go None e = absurd (cc)
      go (Some n) e = run_append n (read o l t) r.rest ms e

  star_reads : (t : Tree) (m : Mark) → m.kind ≡ Star → ReadsOperand t → ReadsOperand (star t m)
  star_reads t m e r = record {
    first = r.first;
    rest = r.rest ++ m ∷ [];
    tokens = ap (λ x. x ++ m ∷ []) r.tokens;
    begins = r.begins;
    reads = λ o l. more o l t r (m ∷ []) ∙ ap (λ k. option_and_then (λ n. run is_weight n []) (step_after is_weight o l t m k)) e;
  }

  weight_behind_reads : (t : Tree) (m : Mark) → IsWeight is_weight m → ReadsOperand t → ReadsOperand (weight_behind t m)
  weight_behind_reads t m (e, w) r = record {
    first = r.first;
    rest = r.rest ++ m ∷ [];
    tokens = ap (λ x. x ++ m ∷ []) r.tokens;
    begins = r.begins;
    reads = λ o l. more o l t r (m ∷ []) ∙ ap (λ k. option_and_then (λ n. run is_weight n []) (step_after is_weight o l t m k)) e
        ∙ ap (λ b. option_and_then (λ n. run is_weight n []) (if b then Some (read o l (weight_behind t m)) else None)) w;
  }

  group_reads : (opening : Mark) (t : Tree) (closing : Mark) → opening.kind ≡ Left → closing.kind ≡ Right → ReadsSum t → ReadsOperand (group opening t closing)
  group_reads opening t closing left right r = record {
    first = opening;
    rest = tokens_of t ++ closing ∷ [];
    tokens = refl;
    begins = ap begins_kind left;
    reads = λ o l.
        ap (λ k. option_and_then (λ n. run is_weight n (tokens_of t ++ closing ∷ [])) (begin o l opening k)) left
        ∙ run_append (want (record { level = l; opening = opening } ∷ o) fresh) (read (record { level = l; opening = opening } ∷ o) r.level r.operand) (tokens_of t) (closing ∷ []) (r.reads (record { level = l; opening = opening } ∷ o))
        ∙ ap (λ k. option_and_then (λ n. run is_weight n []) (step_after is_weight (record { level = l; opening = opening } ∷ o) r.level r.operand closing k)) right
        ∙ ap (λ u. Some (read o l (group opening u closing))) r.is;
  }

  weight_before_reads : (m : Mark) (t : Tree) → IsWeight is_weight m → ReadsPrefixed t → ReadsPrefixed (weight_before m t)
  weight_before_reads m t (e, w) r = record {
    heads = m ∷ r.heads;
    operand = r.operand;
    is = ap (weight_before m) r.is;
    reads = λ o s h c ms.
        ap (λ k. option_and_then (λ n. run is_weight n (tokens_of t)) (step_wanted is_weight o (level_of s h c (weights ms)) m k)) e
        ∙ ap (λ b. option_and_then (λ n. run is_weight n (tokens_of t)) (if b then Some (want o (level_of s h c (weights (ms ++ m ∷ [])))) else None)) w
        ∙ r.reads o s h c (ms ++ m ∷ [])
        ∙ ap (λ x. Some (read o (level_of s h c (weights x)) r.operand)) (append_assoc ms (m ∷ []) r.heads);
  }

  times_reads : (t u : Tree) → ReadsProduct t → ReadsOperand u → ReadsProduct (times t u)
  times_reads t u r q = record {
    head = factors (product_with r.head r.operand);
    operand = u;
    is = ap (λ x. times x u) r.is;
    reads = λ o s h c.
        run_append (want o (level_of s h c (weights []))) (read o (level_of s h c r.head) r.operand) (tokens_of t) (tokens_of u) (r.reads o s h c)
        ∙ operand_after u r.operand q o (level_of s h c r.head);
  }

  both_reads : (t : Tree) (m : Mark) (u : Tree) → m.kind ≡ And → ReadsConjunction t → ReadsProduct u → ReadsConjunction (both t m u)
  both_reads t m u e r q = record {
    conjunct = Some (record { tree = joined both r.conjunct (product_with r.head r.operand); mark = m });
    head = q.head;
    operand = q.operand;
    is = ap (λ x. both x m (product_with q.head q.operand)) r.is ∙ ap (both t m) q.is;
    reads = λ o s h.
        run_append (want o (level_of s h None (weights []))) (read o (level_of s h r.conjunct r.head) r.operand) (tokens_of t) (m ∷ tokens_of u) (r.reads o s h)
        ∙ ap (λ k. option_and_then (λ n. run is_weight n (tokens_of u)) (step_after is_weight o (level_of s h r.conjunct r.head) r.operand m k)) e
        ∙ q.reads o s h (Some (record { tree = joined both r.conjunct (product_with r.head r.operand); mark = m }));
  }

  shuffle_reads : (t : Tree) (m : Mark) (u : Tree) → m.kind ≡ Shuffle → ReadsShuffle t → ReadsConjunction u → ReadsShuffle (shuffle t m u)
  shuffle_reads t m u e r q =
      let left : LeftSide = record { tree = joined shuffle r.shuffled (joined both r.conjunct (product_with r.head r.operand)); mark = m } in
      record {
        shuffled = Some left;
        conjunct = q.conjunct;
        head = q.head;
        operand = q.operand;
        is = ap (λ x. shuffle x m (joined both q.conjunct (product_with q.head q.operand))) r.is ∙ ap (shuffle t m) q.is;
        reads = λ o s.
            run_append (want o (level_of s None None (weights []))) (read o (level_of s r.shuffled r.conjunct r.head) r.operand) (tokens_of t) (m ∷ tokens_of u) (r.reads o s)
            ∙ ap (λ k. option_and_then (λ n. run is_weight n (tokens_of u)) (step_after is_weight o (level_of s r.shuffled r.conjunct r.head) r.operand m k)) e
            ∙ q.reads o s (Some left);
      }

  plus_reads : (t : Tree) (m : Mark) (u : Tree) → m.kind ≡ Plus → ReadsSum t → ReadsShuffle u → ReadsSum (plus t m u)
  plus_reads t m u e r q =
      let left : LeftSide = record { tree = sum_with r.level r.operand; mark = m } in
      record {
        level = level_of (Some left) q.shuffled q.conjunct q.head;
        operand = q.operand;
        is = ap (λ x. plus x m (joined shuffle q.shuffled (joined both q.conjunct (product_with q.head q.operand)))) r.is ∙ ap (plus t m) q.is;
        reads = λ o.
            run_append (want o fresh) (read o r.level r.operand) (tokens_of t) (m ∷ tokens_of u) (r.reads o)
            ∙ ap (λ k. option_and_then (λ n. run is_weight n (tokens_of u)) (step_after is_weight o r.level r.operand m k)) e
            ∙ q.reads o (Some left);
      }

  -- each tree of the grammar is read in each form that it has
  pub reads : (t : Tree) → InGrammar is_weight t → Reads t
  reads (zero_tree m) e = by_operand (zero_tree m) (record {
    first = m;
    rest = [];
    tokens = refl;
    begins = ap begins_kind e;
    reads = λ o l. ap (λ k. option_and_then (λ n. run is_weight n []) (begin o l m k)) e;
  })
  reads (label m bs) (part, are) = by_operand (label m bs) (label_reads m bs part are)
  reads (class m) e = by_operand (class m) (record {
    first = m;
    rest = [];
    tokens = refl;
    begins = ap begins_kind e;
    reads = λ o l. ap (λ k. option_and_then (λ n. run is_weight n []) (begin o l m k)) e;
  })
  reads (group opening t closing) (left, inside, right) = by_operand (group opening t closing) (group_reads opening t closing left right (reads t inside.1).sum)
  reads (star t m) (inside, e) = by_operand (star t m) (star_reads t m e ((reads t inside.1).operand inside.0))
  reads (weight_behind t m) (inside, w) = by_operand (weight_behind t m) (weight_behind_reads t m w ((reads t inside.1).operand inside.0))
  reads (weight_before m t) (w, inside) = by_prefixed (weight_before m t) refl (weight_before_reads m t w ((reads t inside.1).prefixed inside.0))
  reads (times t u) (one, two) = by_product (times t u) refl refl (times_reads t u ((reads t one.1).product one.0) ((reads u two.1).operand two.0))
  reads (both t m u) (one, e, two) =
      let c : ReadsConjunction (both t m u) = both_reads t m u e ((reads t one.1).conjunction one.0) ((reads u two.1).product two.0) in
      let h = shuffle_lift (both t m u) c in
      record { operand = λ f. absurd (cc); prefixed = λ f. absurd (cc); product = λ f. absurd (cc); conjunction = λ _. c; shuffle = λ _. h; sum = sum_lift (both t m u) h }
  reads (shuffle t m u) (one, e, two) =
      let h : ReadsShuffle (shuffle t m u) = shuffle_reads t m u e ((reads t one.1).shuffle one.0) ((reads u two.1).conjunction two.0) in
      record { operand = λ f. absurd (cc); prefixed = λ f. absurd (cc); product = λ f. absurd (cc); conjunction = λ f. absurd (cc); shuffle = λ _. h; sum = sum_lift (shuffle t m u) h }
  reads (plus t m u) (one, e, two) =
      record { operand = λ f. absurd (cc); prefixed = λ f. absurd (cc); product = λ f. absurd (cc); conjunction = λ f. absurd (cc); shuffle = λ f. absurd (cc); sum = plus_reads t m u e (reads t one.1).sum ((reads u two.1).shuffle two.0) }

  -- what is in the grammar is read
  pub tree_complete : (ms : List Mark) (t : Tree) → SpellsTree is_weight ms t → tree_of is_weight ms ≡ Some t
  tree_complete ms t h =
      let r = (reads t h.grammar).sum in
      ap (tree_of is_weight) (sym h.tokens) ∙ ap (option_and_then (finish is_weight)) (r.reads []) ∙ ap (λ x. Some x) r.is

  -- tokens spell at most one tree
  pub one_tree : (ms : List Mark) (t u : Tree) → SpellsTree is_weight ms t → SpellsTree is_weight ms u → t ≡ u
  one_tree ms t u h k =
      let e = tree_complete ms t h in
      let f = tree_complete ms u k in
      cc
