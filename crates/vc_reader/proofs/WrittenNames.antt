-- A written name is told by its bytes, and a number by its value.
use Rattle.std.proofs.Common.{◌≡◌, ◌<◌, ◌≤◌, ◌+◌, ◌-◌, ◌*◌, ◌^◌, ℕ, Bool, true, false, ◌&&◌, ◌||◌, ◌==◌, not, nat_le, List, [], ◌∷◌, ◌++◌, length, take, get_or, decimal, fold, refl, ap, ap₂, sym, ◌∙◌, subst, inl, inr, arith}
use Rattle.std.specs.Prelude.{if◌then◌else◌}
use Rattle.std.specs.List.{list_all}
use Rattle.std.proofs.lemmas.Bool.{eqb-true, eq-eqb, false≢true}
use Rattle.std.proofs.lemmas.Bool.Decides.{nat_tests}
use Rattle.std.proofs.lemmas.Fmt.{decimal-digits_value}
use Rattle.std.proofs.lemmas.List.{length-append}
use Rattle.std.proofs.lemmas.Str.Parse.{IsNumeralModel, IsDigitsTest, numerals_by_fold, digits_value_short}
use Rattle.vc_lex.specs.Grammar.{IsNamePart, IsTokenText, Each, joined, is_name_byte}
use Rattle.vc_text.specs.Letters.{is_plain}
use Rattle.vc_lex.specs.declared.token.Mode.TheVariants.{Line}
use Rattle.vc_lex.specs.declared.token.TokenKind.{TokenKind}
use Rattle.vc_lex.specs.declared.token.TokenKind.TheVariants.{Zero, One, Letter, Run, Quoted, Class, Weight, Star, And, Shuffle, Plus, Left, Right, Bar, Arrow, Comma, Dollar, Equals, Name}
use Rattle.vc_text.specs.Escapes.{inside, unescaped}
use Rattle.vc_lines.specs.Grammar.{is_state_text, written_name}
use Rattle.vc_lines.specs.Names.{is_digit, is_number, value_of, has_no_zero_in_front}
use Rattle.vc_reader.proofs.EntryLabels.{both_true}

-- the text of bytes in which each double quote and each backslash has a backslash before it
abbrev pub escaped : List ℕ → List ℕ
escaped [] = []
escaped (x ∷ s) = if x == 34 || x == 92 then 92 ∷ x ∷ escaped s else x ∷ escaped s

-- a name in which no other byte has a backslash before it
abbrev pub IsWritten : List ℕ → Type 0
IsWritten name = escaped (unescaped name) ≡ name

unescaped_plain : (x : ℕ) (s : List ℕ) → (x == 92) ≡ false → unescaped (x ∷ s) ≡ x ∷ unescaped s
unescaped_plain x [] e = refl
unescaped_plain x (y ∷ s) e = ap (λ b. if b then y ∷ unescaped s else x ∷ unescaped (y ∷ s)) e

written_plain : (x : ℕ) (s : List ℕ) → (x == 34) ≡ false → (x == 92) ≡ false → IsWritten s → IsWritten (x ∷ s)
written_plain x s e f w =
    ap escaped (unescaped_plain x s f)
    ∙ ap₂ (λ a b. if a || b then 92 ∷ x ∷ escaped (unescaped s) else x ∷ escaped (unescaped s)) e f
    ∙ ap (λ t. x ∷ t) w

written_escape : (x : ℕ) (s : List ℕ) → (x == 34 || x == 92) ≡ true → IsWritten s → IsWritten (92 ∷ x ∷ s)
written_escape x s e w = ap (λ b. if b then 92 ∷ x ∷ escaped (unescaped s) else x ∷ escaped (unescaped s)) e ∙ ap (λ t. 92 ∷ x ∷ t) w

other_byte : (p : ℕ → Bool) (x k : ℕ) → p k ≡ false → p x ≡ true → (x == k) ≡ false
other_byte p x k n h = go (x == k) refl
  where
    go : (b : Bool) → (x == k) ≡ b → b ≡ false
    go true e = absurd (false≢true (sym n ∙ ap p (sym (eqb-true x k e)) ∙ h))
    go false e = refl

plain_quote : is_plain 34 ≡ false
unfolding is_plain
plain_quote = refl

plain_back : is_plain 92 ≡ false
unfolding is_plain
plain_back = refl

run_written : (s : List ℕ) → list_all is_plain s ≡ true → IsWritten s
run_written [] h = refl
run_written (x ∷ s) h =
    let b = both_true (is_plain x) (list_all is_plain s) h in
    written_plain x s (other_byte is_plain x 34 plain_quote b.0) (other_byte is_plain x 92 plain_back b.0) (run_written s b.1)

pieces_written : (pieces : List (List ℕ)) → Each IsNamePart pieces → IsWritten (joined pieces)
pieces_written [] h = refl
pieces_written (p ∷ pieces) (inl (x, e, t), h) =
    subst (λ q. IsWritten (q ++ joined pieces)) (sym t) (written_plain x (joined pieces) (other_byte is_name_byte x 34 refl e) (other_byte is_name_byte x 92 refl e) (pieces_written pieces h))
pieces_written (p ∷ pieces) (inr (inl t), h) = subst (λ q. IsWritten (q ++ joined pieces)) (sym t) (written_escape 34 (joined pieces) refl (pieces_written pieces h))
pieces_written (p ∷ pieces) (inr (inr t), h) = subst (λ q. IsWritten (q ++ joined pieces)) (sym t) (written_escape 92 (joined pieces) refl (pieces_written pieces h))

front_part : (s t : List ℕ) → take (length s) (s ++ t) ≡ s
front_part [] t = refl
front_part (x ∷ s) t = ap (λ r. x ∷ r) (front_part s t)

between : (s : List ℕ) → inside (34 ∷ (s ++ 34 ∷ [])) ≡ s
between s =
    let l = length-append s (34 ∷ []) in
    let n : length (34 ∷ (s ++ 34 ∷ [])) - 2 ≡ length s = omega (arith, l) in
    ap (λ k. take k (s ++ 34 ∷ [])) n ∙ front_part s (34 ∷ [])

-- the name that a token is, is written
pub token_written : (kind : TokenKind) (text : List ℕ) → IsTokenText kind Line text → is_state_text kind text ≡ true → IsWritten (written_name kind text)
token_written Run text t h = run_written text h
token_written Name text (s, e, (pieces, j, each)) h = subst IsWritten (sym (ap inside e ∙ between s ∙ j)) (pieces_written pieces each)
token_written Zero text t h = absurd (false≢true h)
token_written One text t h = absurd (false≢true h)
token_written Letter text t h = absurd (false≢true h)
token_written Quoted text t h = absurd (false≢true h)
token_written Class text t h = absurd (false≢true h)
token_written Weight text t h = absurd (false≢true h)
token_written Star text t h = absurd (false≢true h)
token_written And text t h = absurd (false≢true h)
token_written Shuffle text t h = absurd (false≢true h)
token_written Plus text t h = absurd (false≢true h)
token_written Left text t h = absurd (false≢true h)
token_written Right text t h = absurd (false≢true h)
token_written Bar text t h = absurd (false≢true h)
token_written Arrow text t h = absurd (false≢true h)
token_written Comma text t h = absurd (false≢true h)
token_written Dollar text t h = absurd (false≢true h)
token_written Equals text t h = absurd (false≢true h)

-- written names with the same bytes are equal
pub same_bytes : (a b : List ℕ) → IsWritten a → IsWritten b → unescaped a ≡ unescaped b → a ≡ b
same_bytes a b v w e = sym v ∙ ap escaped e ∙ w

-- texts of digits alone
digits_told : IsDigitsTest (λ ds. list_all is_digit ds ≡ true)
digits_told = record {
  empty = refl;
  parts = λ c cs h. (digit c (both_true (is_digit c) (list_all is_digit cs) h).0, (both_true (is_digit c) (list_all is_digit cs) h).1);
  more = λ c cs k h. ap (λ b. b && list_all is_digit cs) (is_one c k) ∙ h;
}
  where
    digit : (c : ℕ) → is_digit c ≡ true → (48 ≤ c) × (c ≤ 57)
    digit c h = grind (arith, nat_tests)

    is_one : (c : ℕ) → (48 ≤ c) × (c ≤ 57) → is_digit c ≡ true
    is_one c k = grind (arith, nat_tests)

values : IsNumeralModel (λ ds. list_all is_digit ds ≡ true) value_of
values = numerals_by_fold (λ ds. list_all is_digit ds ≡ true) digits_told (λ n ds. fold (λ m x. m * 10 + (x - 48)) n ds) (record { empty = λ n. refl; more = λ n c cs k. refl })

record NumberParts (name : List ℕ) : Type 0 where
  some : 0 < length name
  short : length name ≤ 18
  digits : list_all is_digit name ≡ true
  front : has_no_zero_in_front name ≡ true

number_parts : (name : List ℕ) → is_number name ≡ true → NumberParts name
number_parts name h =
    let a = both_true (nat_le 1 (length name) && nat_le (length name) 18 && list_all is_digit name) (has_no_zero_in_front name) h in
    let b = both_true (nat_le 1 (length name) && nat_le (length name) 18) (list_all is_digit name) a.0 in
    let c = both_true (nat_le 1 (length name)) (nat_le (length name) 18) b.0 in
    record { some = least (length name) c.0; short = most (length name) c.1; digits = b.1; front = a.1 }
  where
    least : (n : ℕ) → nat_le 1 n ≡ true → 0 < n
    least n h = grind (arith, nat_tests)

    most : (n : ℕ) → nat_le n 18 ≡ true → n ≤ 18
    most n h = grind (arith, nat_tests)

zero_alone : (name : List ℕ) → 0 < length name → has_no_zero_in_front name ≡ true → get_or name 0 0 ≡ 48 → length name ≡ 1
zero_alone [] s h e = absurd (omega arith)
zero_alone (x ∷ []) s h e = refl
zero_alone (x ∷ y ∷ name) s h e = absurd (false≢true (ap not (sym (eq-eqb x 48 e)) ∙ h))

-- a number is the decimal of its value
pub number_decimal : (name : List ℕ) → is_number name ≡ true → decimal (value_of name) ≡ name
number_decimal name h =
    let p = number_parts name h in
    let s = digits_value_short values name 18 p.digits p.short in
    let q : 10 ^ 18 ≤ 2 ^ 64 = omega arith in
    decimal-digits_value values name p.digits p.some (zero_alone name p.some p.front) (omega (arith, s, q))

pub same_number : (a b : List ℕ) → is_number a ≡ true → is_number b ≡ true → value_of a ≡ value_of b → a ≡ b
same_number a b h k e = sym (number_decimal a h) ∙ ap decimal e ∙ number_decimal b k
