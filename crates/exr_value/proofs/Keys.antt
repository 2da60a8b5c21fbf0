-- Key codes taken from a source, and read back.
use Rattle.std.proofs.Common.{rules, ◌≡◌, ℕ, ◌<◌, ◌++◌, length, ℤ, Ok, Err, Result, sym, ap, ◌∙◌, subst, arith, to_z-of_z, w32, SFits, to_z, of_z}
use mir.Facts.{Fits-of_z}
use Rattle.std.proofs.lemmas.List.{length-append, append-nil, nil_from_length, length-take-le}
use Rattle.std.specs.Result.{MatchResult}
use Rattle.std.specs.Borrow.{Bor}
use Rattle.layout.specs.Numbers.{Bytes, EachByte, range}
use Rattle.layout.specs.Streams.{SourceMeaning}
use Rattle.layout.specs.Fields.{integers, Held}
use Rattle.layout.specs.KeyCodes.{key_code, key_code_bytes}
use Rattle.layout.proofs.Numbered.{bytes_take}
use Rattle.layout.proofs.Fielded.{integers_are}
use Rattle.layout.proofs.Keyed.{key_code_back, key_code_carried, key_code_there}
use Rattle.exr_error.specs.declared.fault.Fault.{Fault}
use Rattle.exr_error.specs.declared.refusal.Refusal.{Refusal}
use Rattle.exr_error.specs.Refusals.{number_of}
use Rattle.exr_read.proofs.Filling.{Whole}
use Rattle.exr_value.specs.declared.key_code.KeyCode.{KeyCode}
use Rattle.exr_value.specs.Seen.{seen_by}
use Rattle.exr_value.specs.KeyCodes.{numbers_of, Fits, Taken, KeyCodesReadBack}

-- bytes that filled a buffer of 28 and read as a key code are its bytes
key_code_taken : (m : SourceMeaning) (buffer : Bytes) (m' : SourceMeaning) (bytes : Bytes) (k : KeyCode) (rest : Bytes) → length buffer ≡ 28 → EachByte m.bytes →
    Whole m buffer m' bytes → Ok (numbers_of k, rest) ≡ integers 7 bytes → Taken m (Ok k) m'
key_code_taken m buffer m' bytes k rest long each w e =
    let below : EachByte bytes = subst EachByte (sym w.front) (bytes_take (length buffer) m.bytes each) in
    let same : bytes ≡ key_code_bytes (numbers_of k) ++ rest = key_code_carried bytes rest (numbers_of k) below (integers_are 7 bytes ∙ sym e) in
    let n : length bytes ≡ 28 = ap length w.front ∙ length-take-le (length buffer) m.bytes w.enough ∙ long in
    let none : length rest ≡ 0 = omega (arith, n, ap length same, length-append (key_code_bytes (numbers_of k)) rest) in
    let all : bytes ≡ key_code_bytes (numbers_of k) = same ∙ ap (λ t. key_code_bytes (numbers_of k) ++ t) (nil_from_length rest none) ∙ append-nil (key_code_bytes (numbers_of k)) in
    (w.split ∙ ap (λ t. t ++ m'.bytes) all, w.stop)

-- such bytes always do
key_code_read : (m : SourceMeaning) (buffer : Bytes) (m' : SourceMeaning) (bytes : Bytes) (q : ℕ) → length buffer ≡ 28 → Whole m buffer m' bytes → Err q ≡ integers 7 bytes → ⊥
key_code_read m buffer m' bytes q long w e =
    let n : length bytes ≡ 28 = ap length w.front ∙ length-take-le (length buffer) m.bytes w.enough ∙ long in
    key_code_there bytes q (omega (arith, n)) (integers_are 7 bytes ∙ sym e)

-- so what is read of them is taken, whatever a refusal is mapped to
module _ {m : SourceMeaning} {buffer : Bytes} {m' : SourceMeaning} {bytes : Bytes} (long : length buffer ≡ 28) (w : Whole m buffer m' bytes) {s : Result (KeyCode × Bor Bytes) Fault} (Q : Refusal → Type 0) where
  pub key_code_kept : (r : Result (KeyCode × Bor Bytes) Refusal) (p : KeyCode × Bor Bytes) → EachByte m.bytes → seen_by numbers_of r ≡ integers 7 bytes → MatchResult r (λ x. s ≡ Ok x) Q → s ≡ Ok p → Taken m (Ok p.0) m'
  key_code_kept (Ok x) p each e h k =
      let same : x ≡ p = cc in
      subst (λ (y : KeyCode × Bor Bytes). Taken m (Ok y.0) m') same (key_code_taken m buffer m' bytes x.0 x.1.now long each w e)
  key_code_kept (Err f) p each e h k = absurd (key_code_read m buffer m' bytes (number_of f) long w e)

  pub key_code_never : (r : Result (KeyCode × Bor Bytes) Refusal) (f : Fault) → seen_by numbers_of r ≡ integers 7 bytes → MatchResult r (λ x. s ≡ Ok x) Q → s ≡ Err f → ⊥
  key_code_never (Ok x) f e h k = cc
  key_code_never (Err q) f e h k = key_code_read m buffer m' bytes (number_of q) long w e

-- ---- read back

small : (z : ℤ) → SFits w32 z → of_z w32 z < range 4
small z f = (Fits-of_z {w = w32} {z = z} f).fits

held : (k : KeyCode) → Fits k → Held key_code (numbers_of k)
unfolding Held
held k f = search (rules, small)

same_number : (a b : ℤ) → SFits w32 a → SFits w32 b → of_z w32 a ≡ of_z w32 b → a ≡ b
same_number a b f g e = sym (to_z-of_z {w = w32} f) ∙ ap (to_z w32) e ∙ to_z-of_z {w = w32} g

one : (k j : KeyCode) → Fits k → Fits j → numbers_of k ≡ numbers_of j → k ≡ j
one k j f g e =
    let a : of_z w32 k.film_manufacturer_code ≡ of_z w32 j.film_manufacturer_code = cc in
    let b : of_z w32 k.film_type ≡ of_z w32 j.film_type = cc in
    let c : of_z w32 k.film_roll_prefix ≡ of_z w32 j.film_roll_prefix = cc in
    let d : of_z w32 k.count ≡ of_z w32 j.count = cc in
    let o : of_z w32 k.perforation_offset ≡ of_z w32 j.perforation_offset = cc in
    let p : of_z w32 k.perforations_per_frame ≡ of_z w32 j.perforations_per_frame = cc in
    let q : of_z w32 k.perforations_per_count ≡ of_z w32 j.perforations_per_count = cc in
    λ i. record {
      film_manufacturer_code = same_number k.film_manufacturer_code j.film_manufacturer_code f.0 g.0 a i;
      film_type = same_number k.film_type j.film_type f.1 g.1 b i;
      film_roll_prefix = same_number k.film_roll_prefix j.film_roll_prefix f.2 g.2 c i;
      count = same_number k.count j.count f.3 g.3 d i;
      perforation_offset = same_number k.perforation_offset j.perforation_offset f.4 g.4 o i;
      perforations_per_frame = same_number k.perforations_per_frame j.perforations_per_frame f.5 g.5 p i;
      perforations_per_count = same_number k.perforations_per_count j.perforations_per_count f.6 g.6 q i;
    }

pub key_codes_read_back_lem : KeyCodesReadBack
key_codes_read_back_lem = record { back = λ k rest f. key_code_back (numbers_of k) rest (held k f); one = one }
