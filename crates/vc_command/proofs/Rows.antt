-- What the rows of a parse hold.
use Rattle.std.proofs.Common.{◌≡◌, ◌||◌, Bool, true, false, refl, sym, ap, subst, true≢false, List, [], ◌∷◌, ◌++◌, Option, Some, None}
use Rattle.std.specs.Prelude.{if◌then◌else◌, slice_get}
use Rattle.std.specs.Str.{bytes_eq}
use Rattle.std.proofs.lemmas.Slice.Eq.{bytes_eq-Decides}
use Rattle.clap.specs.Walk.{Row, Text, all_of, first_of, has_row, with_values, without}
use Rattle.clap.specs.declared.builder.value_parser.Reading.{Reading}
use Rattle.clap.specs.declared.parser.matches.ValueSource.{ValueSource}

-- the values of an id, none where it has no row
abbrev pub values_at : Text → List Row → List Text
values_at id [] = []
values_at id (r ∷ rs) = if bytes_eq r.id id then r.values else values_at id rs

pub same_text : (id : Text) → bytes_eq id id ≡ true
same_text id = (bytes_eq-Decides id id).1 refl

other_text : (a id other : Text) → bytes_eq a id ≡ true → bytes_eq id other ≡ false → bytes_eq a other ≡ false
other_text a id other e f = subst (λ t. bytes_eq t other ≡ false) (sym ((bytes_eq-Decides a id).0 e)) f

module _ (id : Text) (how : Reading) (s : ValueSource) (vs : List Text) where
  pub values_at-with_values : (rows : List Row) → values_at id (with_values id how s vs rows) ≡ values_at id rows ++ vs
  values_at-with_values [] = rw (same_text id) refl
  values_at-with_values (r ∷ rs) = go (bytes_eq r.id id) refl (values_at-with_values rs)
    where
      go : (b : Bool) → bytes_eq r.id id ≡ b → values_at id (with_values id how s vs rs) ≡ values_at id rs ++ vs → values_at id (with_values id how s vs (r ∷ rs)) ≡ values_at id (r ∷ rs) ++ vs
      go true e h = rw (e, e) refl
      go false e h = rw (e, e) h

  pub has_row-with_values : (rows : List Row) → has_row id (with_values id how s vs rows) ≡ true
  has_row-with_values [] = rw (same_text id) refl
  has_row-with_values (r ∷ rs) = go (bytes_eq r.id id) refl (has_row-with_values rs)
    where
      go : (b : Bool) → bytes_eq r.id id ≡ b → has_row id (with_values id how s vs rs) ≡ true → has_row id (with_values id how s vs (r ∷ rs)) ≡ true
      go true e h = rw (e, e) refl
      go false e h = rw (e, e) h

  module _ (other : Text) (differs : bytes_eq id other ≡ false) where
    pub values_at-with_others : (rows : List Row) → values_at other (with_values id how s vs rows) ≡ values_at other rows
    values_at-with_others [] = rw differs refl
    values_at-with_others (r ∷ rs) = go (bytes_eq r.id id) refl (values_at-with_others rs)
      where
        go : (b : Bool) → bytes_eq r.id id ≡ b → values_at other (with_values id how s vs rs) ≡ values_at other rs → values_at other (with_values id how s vs (r ∷ rs)) ≡ values_at other (r ∷ rs)
        go true e h = let f = other_text r.id id other e differs in rw (e, f) refl
        go false e h = rw e (ap (λ xs. if bytes_eq r.id other then r.values else xs) h)

    pub has_row-with_others : (rows : List Row) → has_row other (with_values id how s vs rows) ≡ has_row other rows
    has_row-with_others [] = rw differs refl
    has_row-with_others (r ∷ rs) = go (bytes_eq r.id id) refl (has_row-with_others rs)
      where
        go : (b : Bool) → bytes_eq r.id id ≡ b → has_row other (with_values id how s vs rs) ≡ has_row other rs → has_row other (with_values id how s vs (r ∷ rs)) ≡ has_row other (r ∷ rs)
        go true e h = rw e refl
        go false e h = rw e (ap (λ b. bytes_eq r.id other || b) h)

no_row_of : (r : Row) (id : Text) (b : Bool) → (bytes_eq r.id id || b) ≡ false → (bytes_eq r.id id ≡ false) × (b ≡ false)
no_row_of r id b = go (bytes_eq r.id id) refl
  where
    go : (t : Bool) → bytes_eq r.id id ≡ t → (t || b) ≡ false → (bytes_eq r.id id ≡ false) × (b ≡ false)
    go true e h = absurd (true≢false h)
    go false e h = (e, h)

pub without-none : (id : Text) (rows : List Row) → has_row id rows ≡ false → without id rows ≡ rows
without-none id [] h = refl
without-none id (r ∷ rs) h =
    let parts = no_row_of r id _ h in
    rw parts.0 (ap (λ xs. r ∷ xs) (without-none id rs parts.1))

pub values_at-none : (id : Text) (rows : List Row) → has_row id rows ≡ false → values_at id rows ≡ []
values_at-none id [] h = refl
values_at-none id (r ∷ rs) h =
    let parts = no_row_of r id _ h in
    rw parts.0 (values_at-none id rs parts.1)

-- what the getters read
pub first_of-values_at : (id : Text) (rows : List Row) → first_of id rows ≡ slice_get (values_at id rows) 0
first_of-values_at id [] = refl
first_of-values_at id (r ∷ rs) = go (bytes_eq r.id id) refl (first_of-values_at id rs)
  where
    go : (b : Bool) → bytes_eq r.id id ≡ b → first_of id rs ≡ slice_get (values_at id rs) 0 → first_of id (r ∷ rs) ≡ slice_get (values_at id (r ∷ rs)) 0
    go true e h = rw e refl
    go false e h = rw e h

abbrev pub listed : Option (List Text) → List Text
listed None = []
listed (Some xs) = xs

pub all_of-values_at : (id : Text) (rows : List Row) → listed (all_of id rows) ≡ values_at id rows
all_of-values_at id [] = refl
all_of-values_at id (r ∷ rs) = go (bytes_eq r.id id) refl (all_of-values_at id rs)
  where
    go : (b : Bool) → bytes_eq r.id id ≡ b → listed (all_of id rs) ≡ values_at id rs → listed (all_of id (r ∷ rs)) ≡ values_at id (r ∷ rs)
    go true e h = rw e refl
    go false e h = rw e h
