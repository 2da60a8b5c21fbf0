-- The two words of a time code fit their fields, and what is unpacked has its sizes.
use Rattle.std.proofs.Common.{◌≡◌, ℕ, ◌/◌, ◌<◌, ◌≤◌, min, true, false, List, [], ◌∷◌, length, get_or, refl, subst, arith}
use Rattle.std.proofs.lemmas.Bool.Decides.{nat_tests}
use Rattle.std.proofs.lemmas.Nat.{mod_below}
use Rattle.layout.specs.Numbers.{range}
use Rattle.layout.specs.Fields.{Held}
use Rattle.layout.specs.TimeCodes.{TimeCode, valid, pack, time_table, time_word, user_word, user_table, time_fields, time_from, time_numbers, Sized, TimeCodesPacked}
use Rattle.layout.proofs.Lists.{eight}
use Rattle.layout.proofs.Tables.{Fit, field_pack}
use Rattle.layout.proofs.TimeBack.{time_codes_read_back_lem, mark_small, time_fit, fit_user}

eight_small : (a b c d e f g h : ℕ) → a ≤ 15 → b ≤ 15 → c ≤ 15 → d ≤ 15 → e ≤ 15 → f ≤ 15 → g ≤ 15 → h ≤ 15 →
    pack ((4, a) ∷ (4, b) ∷ (4, c) ∷ (4, d) ∷ (4, e) ∷ (4, f) ∷ (4, g) ∷ (4, h) ∷ []) < range 4
eight_small a b c d e f g h p q r s t u v w = omega arith

capped : (n : ℕ) → min n 15 ≤ 15
capped n = omega arith

user_small : (gs : List ℕ) → length gs ≡ 8 → user_word gs < range 4
user_small gs long = at (eight gs long)
  where
    at : get_or gs 0 0 ∷ get_or gs 1 0 ∷ get_or gs 2 0 ∷ get_or gs 3 0 ∷ get_or gs 4 0 ∷ get_or gs 5 0 ∷ get_or gs 6 0 ∷ get_or gs 7 0 ∷ [] ≡ gs → user_word gs < range 4
    at e = subst (λ (xs : List ℕ). user_word xs < range 4) e (eights _ _ _ _ _ _ _ _)
      where
        eights : (a b c d e f g h : ℕ) → user_word (a ∷ b ∷ c ∷ d ∷ e ∷ f ∷ g ∷ h ∷ []) < range 4
        eights a b c d e f g h = eight_small _ _ _ _ _ _ _ _ (capped a) (capped b) (capped c) (capped d) (capped e) (capped f) (capped g) (capped h)

tens : (n m : ℕ) → n ≤ m → n / 10 ≤ m / 10
tens n m h = omega arith

time_small : (t : TimeCode) → valid t ≡ true → time_word t < range 4
time_small t ok =
    let frame : t.frame ≤ 29 = grind (arith, nat_tests) in
    let seconds : t.seconds ≤ 59 = grind (arith, nat_tests) in
    let minutes : t.minutes ≤ 59 = grind (arith, nat_tests) in
    let hours : t.hours ≤ 23 = grind (arith, nat_tests) in
    let a = mark_small t.drop_frame in
    let b = mark_small t.color_frame in
    let c = mark_small t.field_phase in
    let d = mark_small (get_or t.group_flags 0 false) in
    let e = mark_small (get_or t.group_flags 1 false) in
    let f = mark_small (get_or t.group_flags 2 false) in
    omega (arith, mod_below t.frame 10 (omega arith), mod_below t.seconds 10 (omega arith), mod_below t.minutes 10 (omega arith), mod_below t.hours 10 (omega arith))

pub time_held : (t : TimeCode) → Sized t → valid t ≡ true → Held time_fields (time_numbers t)
unfolding Held time_numbers
time_held t s ok = (time_small t ok, refl, refl, (user_small t.groups s.1, refl, refl, tt))

pub time_back : (t : TimeCode) → Sized t → valid t ≡ true → time_from (time_numbers t) ≡ t
unfolding time_numbers
time_back t s ok = time_codes_read_back_lem t s.0 s.1 ok

pub time_sized : (ns : List ℕ) → Sized (time_from ns)
time_sized ns = (refl, refl)

pub time_codes_packed : TimeCodesPacked
time_codes_packed = record {
  time = λ t ok. let fit : Fit (time_table t) = time_fit t ok in (
    field_pack (time_table t) 0 (omega arith) fit,
    (
      field_pack (time_table t) 1 (omega arith) fit,
      (
        field_pack (time_table t) 2 (omega arith) fit,
        (
          field_pack (time_table t) 3 (omega arith) fit,
          (
            field_pack (time_table t) 4 (omega arith) fit,
            (
              field_pack (time_table t) 5 (omega arith) fit,
              (
                field_pack (time_table t) 6 (omega arith) fit,
                (
                  field_pack (time_table t) 7 (omega arith) fit,
                  (
                    field_pack (time_table t) 8 (omega arith) fit,
                    (
                      field_pack (time_table t) 9 (omega arith) fit,
                      (
                        field_pack (time_table t) 10 (omega arith) fit,
                        (
                          field_pack (time_table t) 11 (omega arith) fit,
                          (field_pack (time_table t) 12 (omega arith) fit, (field_pack (time_table t) 13 (omega arith) fit, tt)),
                        ),
                      ),
                    ),
                  ),
                ),
              ),
            ),
          ),
        ),
      ),
    ),
  );
  user = λ a b c d e f g h.
      let gs : List ℕ = a ∷ b ∷ c ∷ d ∷ e ∷ f ∷ g ∷ h ∷ [] in
      let fit : Fit (user_table gs) = fit_user gs in (
        field_pack (user_table gs) 0 (omega arith) fit,
        (
          field_pack (user_table gs) 1 (omega arith) fit,
          (
            field_pack (user_table gs) 2 (omega arith) fit,
            (
              field_pack (user_table gs) 3 (omega arith) fit,
              (
                field_pack (user_table gs) 4 (omega arith) fit,
                (
                  field_pack (user_table gs) 5 (omega arith) fit,
                  (field_pack (user_table gs) 6 (omega arith) fit, (field_pack (user_table gs) 7 (omega arith) fit, tt)),
                ),
              ),
            ),
          ),
        ),
      );
  time_fits = time_small;
  user_fits = user_small;
}
