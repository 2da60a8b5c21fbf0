-- The two words of a time code, by their bits.
use Rattle.std.specs.Prelude.{◌≡◌, ℕ, ◌+◌, ◌*◌, ◌/◌, ◌%◌, ◌^◌, ◌<◌, min, Bool, true, false, cond, ◌&&◌, List, [], ◌∷◌, length, ◌==◌, nat_le, slice_index, slice_index_or}
use Rattle.layout.specs.Fields.{Field, u32}

pub record TimeCode : Type 0 where
  pub hours : ℕ
  pub minutes : ℕ
  pub seconds : ℕ
  pub frame : ℕ
  pub drop_frame : Bool
  pub color_frame : Bool
  pub field_phase : Bool
  pub group_flags : List Bool
  pub groups : List ℕ

-- the number in some bits of a word, from a place on
abbrev pub field : ℕ → ℕ → ℕ → ℕ
field from width word = word / 2 ^ from % 2 ^ width

abbrev pub bit : ℕ → ℕ → Bool
bit at word = field at 1 word == 1

-- units in four bits, and tens in some bits above them
abbrev pub digits : ℕ → ℕ → ℕ → ℕ
digits from tens word = 10 * field (from + 4) tens word + field from 4 word

abbrev pub groups_of : ℕ → List ℕ
groups_of user =
    field 0 4 user ∷ field 4 4 user ∷ field 8 4 user ∷ field 12 4 user ∷ field 16 4 user ∷ field 20 4 user ∷ field 24 4 user ∷ field 28 4 user ∷ []

abbrev pub time_code : ℕ → ℕ → TimeCode
time_code time user = record {
  hours = digits 24 2 time;
  minutes = digits 16 3 time;
  seconds = digits 8 3 time;
  frame = digits 0 2 time;
  drop_frame = bit 6 time;
  color_frame = bit 7 time;
  field_phase = bit 15 time;
  group_flags = bit 23 time ∷ bit 30 time ∷ bit 31 time ∷ [];
  groups = groups_of user;
}

-- ---- the other way

abbrev pub mark : Bool → ℕ
mark b = cond b 1 0

-- each group has four bits
abbrev pub few : List ℕ → Bool
few [] = true
few (g ∷ gs) = nat_le g 15 && few gs

abbrev pub valid : TimeCode → Bool
valid t = nat_le t.frame 29 && nat_le t.seconds 59 && nat_le t.minutes 59 && nat_le t.hours 23 && few t.groups

-- a word by its table: from bit 0 up, how many bits each number has, and the number
abbrev pub pack : List (ℕ × ℕ) → ℕ
pack [] = 0
pack (e ∷ rest) = e.1 + 2 ^ e.0 * pack rest

-- the table of the time word
abbrev pub time_table : TimeCode → List (ℕ × ℕ)
time_table t =
    (4, t.frame % 10) ∷ (2, t.frame / 10) ∷ (1, mark t.drop_frame) ∷ (1, mark t.color_frame)
    ∷ (4, t.seconds % 10) ∷ (3, t.seconds / 10) ∷ (1, mark t.field_phase)
    ∷ (4, t.minutes % 10) ∷ (3, t.minutes / 10) ∷ (1, mark (slice_index_or t.group_flags 0 false))
    ∷ (4, t.hours % 10) ∷ (2, t.hours / 10) ∷ (1, mark (slice_index_or t.group_flags 1 false))
    ∷ (1, mark (slice_index_or t.group_flags 2 false)) ∷ []

abbrev pub time_word : TimeCode → ℕ
time_word t = pack (time_table t)

-- the table of the user word: each group has four bits, and one above 15 is taken as 15
abbrev pub user_table : List ℕ → List (ℕ × ℕ)
user_table [] = []
user_table (g ∷ gs) = (4, min g 15) ∷ user_table gs

abbrev pub user_word : List ℕ → ℕ
user_word gs = pack (user_table gs)

-- a time code that is packed is unpacked as it was
abbrev pub TimeCodesReadBack : Type 0
TimeCodesReadBack =
    (t : TimeCode) → length t.group_flags ≡ 3 → length t.groups ≡ 8 → valid t ≡ true →
    time_code (time_word t) (user_word t.groups) ≡ t

-- the bit places of the time word by SMPTE 12M: where each number begins, and how many bits it has
abbrev pub time_places : List (ℕ × ℕ)
time_places =
    (0, 4) ∷ (4, 2) ∷ (6, 1) ∷ (7, 1) ∷ (8, 4) ∷ (12, 3) ∷ (15, 1) ∷ (16, 4) ∷ (20, 3) ∷ (23, 1) ∷ (24, 4) ∷ (28, 2) ∷ (30, 1) ∷ (31, 1) ∷ []

-- what stands there: the units and tens of frame, seconds, minutes and hours, with the flags in between
abbrev pub time_digits : TimeCode → List ℕ
time_digits t =
    t.frame % 10 ∷ t.frame / 10 ∷ mark t.drop_frame ∷ mark t.color_frame ∷ t.seconds % 10 ∷ t.seconds / 10 ∷ mark t.field_phase
    ∷ t.minutes % 10 ∷ t.minutes / 10 ∷ mark (slice_index_or t.group_flags 0 false) ∷ t.hours % 10 ∷ t.hours / 10
    ∷ mark (slice_index_or t.group_flags 1 false) ∷ mark (slice_index_or t.group_flags 2 false) ∷ []

-- a binary group has four bits
abbrev pub user_places : List (ℕ × ℕ)
user_places = (0, 4) ∷ (4, 4) ∷ (8, 4) ∷ (12, 4) ∷ (16, 4) ∷ (20, 4) ∷ (24, 4) ∷ (28, 4) ∷ []

-- a word has each number at its place
abbrev pub Stand : ℕ → List (ℕ × ℕ) → List ℕ → Type 0
Stand word [] ns = Unit {0}
Stand word (p ∷ ps) [] = ⊥
Stand word (p ∷ ps) (n ∷ ns) = (field p.0 p.1 word ≡ n) × Stand word ps ns

pub record TimeCodesPacked : Type 0 where
  -- each digit and flag of a time code stands at its bit place
  pub time : (t : TimeCode) → valid t ≡ true → Stand (time_word t) time_places (time_digits t)
  -- each group stands at its place; one above 15 as 15
  pub user : (a b c d e f g h : ℕ) → Stand (user_word (a ∷ b ∷ c ∷ d ∷ e ∷ f ∷ g ∷ h ∷ [])) user_places
      (min a 15 ∷ min b 15 ∷ min c 15 ∷ min d 15 ∷ min e 15 ∷ min f 15 ∷ min g 15 ∷ min h 15 ∷ [])
  -- both words have 32 bits
  pub time_fits : (t : TimeCode) → valid t ≡ true → time_word t < 2 ^ 32
  pub user_fits : (gs : List ℕ) → length gs ≡ 8 → user_word gs < 2 ^ 32

-- the time word, then the user word
abbrev pub time_fields : List Field
time_fields = u32 ∷ u32 ∷ []

abbrev pub time_from : List ℕ → TimeCode
time_from ns = time_code (slice_index ns 0) (slice_index ns 1)

unfoldable pub time_numbers : TimeCode → List ℕ
time_numbers t = time_word t ∷ user_word t.groups ∷ []

-- three flags and eight groups
abbrev pub Sized : TimeCode → Type 0
Sized t = (length t.group_flags ≡ 3) × (length t.groups ≡ 8)
