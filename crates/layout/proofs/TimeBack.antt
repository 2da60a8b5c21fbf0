-- A time code that is packed is unpacked as it was.
use Rattle.std.proofs.Common.{◌≡◌, ℕ, ◌+◌, ◌*◌, ◌/◌, ◌%◌, ◌<◌, ◌≤◌, min, Bool, true, false, eqb, List, [], ◌∷◌, length, get_or, sym, ap, ◌∙◌, div-add-mod', arith}
use Rattle.std.proofs.lemmas.Nat.{div_below, mod_below}
use Rattle.std.proofs.lemmas.Bool.Decides.{nat_tests}
use Rattle.layout.specs.TimeCodes.{TimeCode, field, bit, digits, groups_of, mark, few, valid, time_table, time_word, user_table, user_word, TimeCodesReadBack}
use Rattle.layout.proofs.Tables.{Fit, field_pack}
use Rattle.layout.proofs.Lists.{three, eight}

pub mark_small : (b : Bool) → mark b < 2
mark_small true = omega arith
mark_small false = omega arith

mark_back : (b : Bool) (n : ℕ) → n ≡ mark b → eqb n 1 ≡ b
mark_back true n e = ap (λ (m : ℕ). eqb m 1) e
mark_back false n e = ap (λ (m : ℕ). eqb m 1) e

tens_back : (n t u : ℕ) → t ≡ n / 10 → u ≡ n % 10 → 10 * t + u ≡ n
tens_back n t u p q = omega (arith, div-add-mod' n 10)

units_small : (n : ℕ) → n % 10 < 16
units_small n = omega (arith, mod_below n 10 (omega arith))

capped : (n : ℕ) → n ≤ 15 → min n 15 ≡ n
capped n h = omega arith

pub fit_user : (gs : List ℕ) → Fit (user_table gs)
fit_user [] = tt
fit_user (g ∷ gs) = (omega arith, fit_user gs)

user_eight : (a b c d e f g h : ℕ) → few (a ∷ b ∷ c ∷ d ∷ e ∷ f ∷ g ∷ h ∷ []) ≡ true → groups_of (user_word (a ∷ b ∷ c ∷ d ∷ e ∷ f ∷ g ∷ h ∷ [])) ≡ a ∷ b ∷ c ∷ d ∷ e ∷ f ∷ g ∷ h ∷ []
user_eight a b c d e f g h ok =
    let gs : List ℕ = a ∷ b ∷ c ∷ d ∷ e ∷ f ∷ g ∷ h ∷ [] in
    let xs : List (ℕ × ℕ) = user_table gs in
    let fit : Fit xs = fit_user gs in
    let a_is : field 0 4 (user_word gs) ≡ a = field_pack xs 0 (omega arith) fit ∙ capped a (grind (arith, nat_tests)) in
    let b_is : field 4 4 (user_word gs) ≡ b = field_pack xs 1 (omega arith) fit ∙ capped b (grind (arith, nat_tests)) in
    let c_is : field 8 4 (user_word gs) ≡ c = field_pack xs 2 (omega arith) fit ∙ capped c (grind (arith, nat_tests)) in
    let d_is : field 12 4 (user_word gs) ≡ d = field_pack xs 3 (omega arith) fit ∙ capped d (grind (arith, nat_tests)) in
    let e_is : field 16 4 (user_word gs) ≡ e = field_pack xs 4 (omega arith) fit ∙ capped e (grind (arith, nat_tests)) in
    let f_is : field 20 4 (user_word gs) ≡ f = field_pack xs 5 (omega arith) fit ∙ capped f (grind (arith, nat_tests)) in
    let g_is : field 24 4 (user_word gs) ≡ g = field_pack xs 6 (omega arith) fit ∙ capped g (grind (arith, nat_tests)) in
    let h_is : field 28 4 (user_word gs) ≡ h = field_pack xs 7 (omega arith) fit ∙ capped h (grind (arith, nat_tests)) in
    λ i. a_is i ∷ b_is i ∷ c_is i ∷ d_is i ∷ e_is i ∷ f_is i ∷ g_is i ∷ h_is i ∷ []

user_back : (gs : List ℕ) → length gs ≡ 8 → few gs ≡ true → groups_of (user_word gs) ≡ gs
user_back gs long f =
    let e = eight gs long in
    ap (λ (xs : List ℕ). groups_of (user_word xs)) (sym e)
    ∙ user_eight _ _ _ _ _ _ _ _ (ap few e ∙ f) ∙ e

pub time_fit : (t : TimeCode) → valid t ≡ true → Fit (time_table t)
time_fit t ok =
    let frame : t.frame ≤ 29 = grind (arith, nat_tests) in
    let seconds : t.seconds ≤ 59 = grind (arith, nat_tests) in
    let minutes : t.minutes ≤ 59 = grind (arith, nat_tests) in
    let hours : t.hours ≤ 23 = grind (arith, nat_tests) in (
      units_small t.frame,
      (
        div_below t.frame 10 4 (omega arith) (omega arith),
        (
          mark_small t.drop_frame,
          (
            mark_small t.color_frame,
            (
              units_small t.seconds,
              (
                div_below t.seconds 10 8 (omega arith) (omega arith),
                (
                  mark_small t.field_phase,
                  (
                    units_small t.minutes,
                    (
                      div_below t.minutes 10 8 (omega arith) (omega arith),
                      (
                        mark_small (get_or t.group_flags 0 false),
                        (
                          units_small t.hours,
                          (
                            div_below t.hours 10 4 (omega arith) (omega arith),
                            (
                              mark_small (get_or t.group_flags 1 false),
                              (mark_small (get_or t.group_flags 2 false), tt),
                            ),
                          ),
                        ),
                      ),
                    ),
                  ),
                ),
              ),
            ),
          ),
        ),
      ),
    )

pub time_codes_read_back_lem : TimeCodesReadBack
time_codes_read_back_lem t flags long ok =
    let frame : t.frame ≤ 29 = grind (arith, nat_tests) in
    let seconds : t.seconds ≤ 59 = grind (arith, nat_tests) in
    let minutes : t.minutes ≤ 59 = grind (arith, nat_tests) in
    let hours : t.hours ≤ 23 = grind (arith, nat_tests) in
    let few_of : few t.groups ≡ true = grind (arith, nat_tests) in
    let fit : Fit (time_table t) = time_fit t ok in
    let w : ℕ = time_word t in
    let frames : digits 0 2 w ≡ t.frame = tens_back t.frame (field 4 2 w) (field 0 4 w) (field_pack (time_table t) 1 (omega arith) fit) (field_pack (time_table t) 0 (omega arith) fit) in
    let seconds_is : digits 8 3 w ≡ t.seconds = tens_back t.seconds (field 12 3 w) (field 8 4 w) (field_pack (time_table t) 5 (omega arith) fit) (field_pack (time_table t) 4 (omega arith) fit) in
    let minutes_is : digits 16 3 w ≡ t.minutes = tens_back t.minutes (field 20 3 w) (field 16 4 w) (field_pack (time_table t) 8 (omega arith) fit) (field_pack (time_table t) 7 (omega arith) fit) in
    let hours_is : digits 24 2 w ≡ t.hours = tens_back t.hours (field 28 2 w) (field 24 4 w) (field_pack (time_table t) 11 (omega arith) fit) (field_pack (time_table t) 10 (omega arith) fit) in
    let drop_is : bit 6 w ≡ t.drop_frame = mark_back t.drop_frame (field 6 1 w) (field_pack (time_table t) 2 (omega arith) fit) in
    let color_is : bit 7 w ≡ t.color_frame = mark_back t.color_frame (field 7 1 w) (field_pack (time_table t) 3 (omega arith) fit) in
    let phase_is : bit 15 w ≡ t.field_phase = mark_back t.field_phase (field 15 1 w) (field_pack (time_table t) 6 (omega arith) fit) in
    let flag0 : bit 23 w ≡ get_or t.group_flags 0 false = mark_back _ (field 23 1 w) (field_pack (time_table t) 9 (omega arith) fit) in
    let flag1 : bit 30 w ≡ get_or t.group_flags 1 false = mark_back _ (field 30 1 w) (field_pack (time_table t) 12 (omega arith) fit) in
    let flag2 : bit 31 w ≡ get_or t.group_flags 2 false = mark_back _ (field 31 1 w) (field_pack (time_table t) 13 (omega arith) fit) in
    let flags_are : (bit 23 w ∷ bit 30 w ∷ bit 31 w ∷ []) ≡ t.group_flags = (λ i. flag0 i ∷ flag1 i ∷ flag2 i ∷ []) ∙ three t.group_flags flags in
    let groups_are : groups_of (user_word t.groups) ≡ t.groups = user_back t.groups long few_of in
    λ i. record {
      hours = hours_is i;
      minutes = minutes_is i;
      seconds = seconds_is i;
      frame = frames i;
      drop_frame = drop_is i;
      color_frame = color_is i;
      field_phase = phase_is i;
      group_flags = flags_are i;
      groups = groups_are i;
    }
