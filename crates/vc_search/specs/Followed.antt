-- Searches that have followed members.
use Rattle.std.specs.Prelude.{◌≡◌, ◌<◌, ◌≤◌, ℕ, Bool, List, length, map, slice_index_or}
use Rattle.vc_label.specs.declared.tape_set.TapeSet.{TapeSet}
use Rattle.vc_model.specs.Items.{Item, item_key}
use Rattle.vc_model.specs.Lists.{In, NoRepeat}
use Rattle.vc_model.specs.Numbering.{numbered, IsNumbering}
use Rattle.vc_model.specs.NumberingLaws.{Longer}
use Rattle.vc_search.specs.Courses.{Course, steps_below}
use Rattle.vc_search.specs.Explored.{next_by}

-- the course has followed all its members: they are numbered, and the transitions are their items, of which no member has two with one label and target
pub record IsFollowed {V K : Type 0} (same : K → K → Bool) (past : K) (first : List K) (items : K → List (Item V K)) (is_member : K → Type 0) (c : Course V K) : Type 0 where
  pub numbering : IsNumbering same (next_by items) first c.members
  pub transitions : c.transitions ≡ steps_below same items past c.members (length c.members)
  pub members : (k : K) → In k c.members → is_member k
  pub once : (i : ℕ) → i < length c.members → NoRepeat (map item_key (items (slice_index_or c.members i past)))

-- the course has followed the first n members, with at most so many members, and labels over these sets; the numbers in its transitions are those of any longer list of members
pub record IsUnderway {V K : Type 0} (same : K → K → Bool) (past : K) (first : List K) (items : K → List (Item V K)) (is_member : K → Type 0) (limit : ℕ) (labels : List TapeSet) (c : Course V K) (n : ℕ) : Type 0 where
  pub numbered : c.members ≡ numbered same (next_by items) first n
  pub transitions : (all : List K) → Longer c.members all → c.transitions ≡ steps_below same items past all n
  pub most : c.most ≡ limit
  pub sets : c.sets ≡ labels
  pub within : n ≤ length c.members
  pub members : (k : K) → In k c.members → is_member k
  pub once : (i : ℕ) → i < n → NoRepeat (map item_key (items (slice_index_or c.members i past)))
