-- The laws of channels and their lists.
use Rattle.std.proofs.Common.{◌≡◌, ℕ, zero, suc, ◌<◌, ◌≤◌, Bool, true, false, cond, eqb, leb, List, [], ◌∷◌, ◌++◌, length, get_or, drop, Ok, Err, sym, refl, ap, ◌∙◌, subst, inl, append_assoc, le_of_suc-le-suc, not-suc-le-zero, arith, length-append}
use Rattle.std.proofs.lemmas.Bool.{leb-true, le-leb, eqb-true, eqb-false, ne_eqb}
use Rattle.layout.specs.Numbers.{Bytes}
use Rattle.layout.specs.Questions.{Answer, next, asked}
use Rattle.layout.specs.Questions.{Question, FirstNo, refusal}
use Rattle.layout.specs.Names.{NonZero, before_zero, channel_name}
use Rattle.layout.specs.Fields.{fields, field_bytes, Numbers, field_questions, numbers_at, size}
use Rattle.layout.specs.Channels.{Channel, channel_fields, channel_numbers, channel_from, channel, channels_in, channel_bytes, channels_bytes, ChannelIs, ChannelsAre, ChannelGood, AllGood, behind_name, behind_channel, channel_questions, channels_questions}
use Rattle.layout.proofs.Reading.{Sees, sees_next, sees_asked, sees_last, no_more, all_then, Asks, asks_next, asks_asked}
use Rattle.layout.proofs.Fielded.{fields_sees, fields_back, fields_written, fields_asks}

-- ---- names

nonzero_before : (xs : Bytes) → NonZero (before_zero xs)
unfolding before_zero
nonzero_before [] = tt
nonzero_before (b ∷ xs) = at (eqb b 0) refl (nonzero_before xs)
  where
    at : (t : Bool) → eqb b 0 ≡ t → NonZero (before_zero xs) → NonZero (cond t [] (b ∷ before_zero xs))
    at true e h = tt
    at false e h = (eqb-false b 0 e, h)

cut_at_zero : (xs : Bytes) → length (before_zero xs) < length xs → xs ≡ before_zero xs ++ (0 ∷ drop (suc (length (before_zero xs))) xs)
unfolding before_zero
cut_at_zero [] h = absurd (not-suc-le-zero h)
cut_at_zero (b ∷ xs) h = at (eqb b 0) refl h (cut_at_zero xs)
  where
    at : (t : Bool) → eqb b 0 ≡ t → length (cond t [] (b ∷ before_zero xs)) < suc (length xs) →
        (length (before_zero xs) < length xs → xs ≡ before_zero xs ++ (0 ∷ drop (suc (length (before_zero xs))) xs)) →
        b ∷ xs ≡ cond t [] (b ∷ before_zero xs) ++ (0 ∷ drop (suc (length (cond t [] (b ∷ before_zero xs)))) (b ∷ xs))
    at true e h ih = ap (λ (n : ℕ). n ∷ xs) (eqb-true b 0 e)
    at false e h ih = ap (λ (t : Bytes). b ∷ t) (ih (le_of_suc-le-suc h))

before_back : (n rest : Bytes) → NonZero n → before_zero (n ++ (0 ∷ rest)) ≡ n
unfolding before_zero
before_back [] rest z = refl
before_back (b ∷ n) rest z =
    ap (λ (t : Bool). cond t [] (b ∷ before_zero (n ++ (0 ∷ rest)))) (ne_eqb b 0 z.0) ∙ ap (λ (t : Bytes). b ∷ t) (before_back n rest z.1)

abbrev NameIs : Bytes → Bytes → Type 0
NameIs n bs = (bs ≡ n ++ (0 ∷ [])) × (length n ≤ 255) × NonZero n

name_sees : (xs : Bytes) → Sees NameIs xs (channel_name xs)
unfolding channel_name
name_sees xs = sees_asked NameIs xs (leb (length (before_zero xs)) 255) 9 (before_zero xs, xs) _ (λ few. at (leb (suc (length (before_zero xs))) (length xs)) refl (leb-true (length (before_zero xs)) 255 few))
  where
    at : (t : Bool) → leb (suc (length (before_zero xs))) (length xs) ≡ t → length (before_zero xs) ≤ 255 →
        Sees NameIs xs (asked t 6 (before_zero xs, drop (suc (length (before_zero xs))) xs))
    at true e few = (
      before_zero xs ++ (0 ∷ []),
      cut_at_zero xs (leb-true (suc (length (before_zero xs))) (length xs) e) ∙ sym (append_assoc (before_zero xs) (0 ∷ []) (drop (suc (length (before_zero xs))) xs)),
      (refl, few, nonzero_before xs),
    )
    at false e few = tt

drop_name : (n rest : Bytes) → drop (suc (length n)) (n ++ (0 ∷ rest)) ≡ rest
drop_name [] rest = refl
drop_name (b ∷ n) rest = drop_name n rest

name_back : (n rest : Bytes) → length n ≤ 255 → NonZero n → channel_name ((n ++ (0 ∷ [])) ++ rest) ≡ Ok (n, rest)
unfolding channel_name
name_back n rest few z =
    let xs : Bytes = n ++ (0 ∷ rest) in
    let l = length-append n (0 ∷ rest) in
    let long : suc (length n) ≤ length xs = omega arith in
    ap channel_name (append_assoc n (0 ∷ []) rest)
    ∙ ap (λ (m : Bytes). next (asked (leb (length m) 255) 9 (m, xs)) (λ n xs. asked (leb (suc (length n)) (length xs)) 6 (n, drop (suc (length n)) xs))) (before_back n rest z)
    ∙ ap (λ (t : Bool). next (asked t 9 (n, xs)) (λ n xs. asked (leb (suc (length n)) (length xs)) 6 (n, drop (suc (length n)) xs))) (le-leb (length n) 255 few)
    ∙ ap (λ (t : Bool). asked t 6 (n, drop (suc (length n)) xs)) (le-leb (suc (length n)) (length xs) long)
    ∙ ap (λ (r : Bytes). Ok (n, r)) (drop_name n rest)

name_asks : (xs : Bytes) →
    Asks ((9, length (before_zero xs) ≤ 255) ∷ (6, length (before_zero xs) < length xs) ∷ []) (before_zero xs) (behind_name xs) (channel_name xs)
unfolding channel_name
name_asks xs =
    let n : Bytes = before_zero xs in
    asks_next ((9, length n ≤ 255) ∷ []) ((6, length n < length xs) ∷ []) n n xs (behind_name xs) (asked (leb (length n) 255) 9 (n, xs)) _
    (asks_asked (length n ≤ 255) (leb (length n) 255) 9 n xs (leb-true (length n) 255) (le-leb (length n) 255))
    (asks_asked (length n < length xs) (leb (suc (length n)) (length xs)) 6 n (behind_name xs) (leb-true (suc (length n)) (length xs)) (le-leb (suc (length n)) (length xs)))

-- ---- a channel

seven : (n : Bytes) (ns : List ℕ) (bs : Bytes) → Numbers channel_fields ns bs → ns ≡ channel_numbers (channel_from n ns)
unfolding Numbers
seven n [] bs is = absurd is
seven n (a ∷ []) bs is = absurd is.6
seven n (a ∷ b ∷ []) bs is = absurd is.6.6
seven n (a ∷ b ∷ c ∷ []) bs is = absurd is.6.6.6
seven n (a ∷ b ∷ c ∷ d ∷ []) bs is = absurd is.6.6.6.6
seven n (a ∷ b ∷ c ∷ d ∷ e ∷ []) bs is = absurd is.6.6.6.6.6
seven n (a ∷ b ∷ c ∷ d ∷ e ∷ x ∷ []) bs is = absurd is.6.6.6.6.6.6
seven n (a ∷ b ∷ c ∷ d ∷ e ∷ x ∷ y ∷ []) bs is =
    let p : c ≡ 0 = is.6.6.5 in
    let q : d ≡ 0 = is.6.6.6.5 in
    let r : e ≡ 0 = is.6.6.6.6.5 in
    λ i. a ∷ b ∷ p i ∷ q i ∷ r i ∷ x ∷ y ∷ []
seven n (a ∷ b ∷ c ∷ d ∷ e ∷ x ∷ y ∷ z ∷ zs) bs is = absurd is.6.6.6.6.6.6.6

head_zero : (b : ℕ) (xs n bs r : Bytes) → (b ≡ 0 → ⊥) → b ∷ xs ≡ bs ++ r → bs ≡ n ++ (0 ∷ []) → 1 ≤ length n
head_zero b xs [] bs r z e f = absurd (z (ap (λ (t : Bytes). get_or t 0 0) (e ∙ ap (λ (t : Bytes). t ++ r) f)))
head_zero b xs (c ∷ n) bs r z e f = omega arith

pub channel_sees : (b : ℕ) (xs : Bytes) → (b ≡ 0 → ⊥) → Sees ChannelIs (b ∷ xs) (channel (b ∷ xs))
unfolding channel ChannelIs
channel_sees b xs z =
    sees_next NameIs ChannelIs (b ∷ xs) (channel_name (b ∷ xs)) _ (name_sees (b ∷ xs)) (λ n bs r e s.
    sees_last (Numbers channel_fields) ChannelIs (b ∷ xs) bs r (fields channel_fields r) (channel_from n) e (fields_sees channel_fields r) (λ ns cs is.
    (cs, ap (λ (t : Bytes). t ++ cs) s.0, (head_zero b xs n bs r z e s.0, s.1, s.2), subst (λ (m : List ℕ). Numbers channel_fields m cs) (seven n ns cs is) is)))

pub channel_back : (c : Channel) (xs rest : Bytes) → ChannelIs c xs → channel (xs ++ rest) ≡ Ok (c, rest)
unfolding channel ChannelIs
channel_back c xs rest (bs, e, named, is) =
    ap channel (ap (λ (t : Bytes). t ++ rest) e ∙ append_assoc (c.name ++ (0 ∷ [])) bs rest)
    ∙ ap (λ (a : Answer Bytes). next a (λ n r. next (fields channel_fields r) (λ ns r. Ok (channel_from n ns, r)))) (name_back c.name (bs ++ rest) named.1 named.2)
    ∙ ap (λ (a : Answer (List ℕ)). next a (λ ns r. Ok (channel_from c.name ns, r))) (fields_back channel_fields (channel_numbers c) bs rest is)

channel_written : (c : Channel) → ChannelGood c → ChannelIs c (channel_bytes c)
unfolding ChannelGood ChannelIs channel_bytes
channel_written c g = (field_bytes channel_fields (channel_numbers c), refl, g.0, fields_written channel_fields (channel_numbers c) g.1)

channel_asks : (xs : Bytes) → Asks (channel_questions xs) (channel_from (before_zero xs) (numbers_at channel_fields (behind_name xs))) (behind_channel xs) (channel xs)
unfolding channel
channel_asks xs =
    let n : Bytes = before_zero xs in
    let r : Bytes = behind_name xs in
    asks_next ((9, length n ≤ 255) ∷ (6, length n < length xs) ∷ []) (field_questions channel_fields r) n (channel_from n (numbers_at channel_fields r)) r (behind_channel xs)
    (channel_name xs) _ (name_asks xs) (made n r (fields channel_fields r) (fields_asks channel_fields r))
  where
    made : (n r : Bytes) (a : Answer (List ℕ)) → Asks (field_questions channel_fields r) (numbers_at channel_fields r) (drop (size channel_fields) r) a →
        Asks (field_questions channel_fields r) (channel_from n (numbers_at channel_fields r)) (drop (size channel_fields) r) (next a (λ ns r. Ok (channel_from n ns, r)))
    made n r (Ok p) s = (s.0, ap (channel_from n) s.1, s.2)
    made n r (Err q) s = s

-- ---- lists

pub channels_sees : (k : ℕ) (xs : Bytes) → Sees ChannelsAre xs (channels_in k xs)
unfolding channels_in ChannelsAre
channels_sees zero xs = tt
channels_sees (suc k) [] = tt
channels_sees (suc k) (b ∷ xs) = at (eqb b 0) refl (channels_sees k)
  where
    at : (t : Bool) → eqb b 0 ≡ t → ((r : Bytes) → Sees ChannelsAre r (channels_in k r)) →
        Sees ChannelsAre (b ∷ xs) (cond t (Ok ([], xs)) (next (channel (b ∷ xs)) (λ c r. next (channels_in k r) (λ cs r. Ok (c ∷ cs, r)))))
    at true e ih = (b ∷ [], refl, ap (λ (n : ℕ). n ∷ []) (eqb-true b 0 e))
    at false e ih =
        sees_next ChannelIs ChannelsAre (b ∷ xs) (channel (b ∷ xs)) _ (channel_sees b xs (eqb-false b 0 e)) (λ c bs r e s.
        sees_last ChannelsAre ChannelsAre (b ∷ xs) bs r (channels_in k r) (λ cs. c ∷ cs) e (ih r) (λ cs more are. (bs, more, refl, s, are)))

first : (n t : Bytes) → 1 ≤ length n → NonZero n → (b : ℕ) × (m : Bytes) × (n ++ t ≡ b ∷ m) × (b ≡ 0 → ⊥)
first [] t h z = absurd (not-suc-le-zero h)
first (b ∷ m) t h z = (b, m ++ t, refl, z.0)

begins : (c : Channel) (xs rest : Bytes) → ChannelIs c xs → (b : ℕ) × (m : Bytes) × (xs ++ rest ≡ b ∷ m) × (b ≡ 0 → ⊥)
unfolding ChannelIs
begins c xs rest (bs, e, named, is) =
    let f = first c.name ((0 ∷ []) ++ (bs ++ rest)) named.0 named.2 in
    (f.0, f.1, ap (λ (t : Bytes). t ++ rest) e ∙ append_assoc (c.name ++ (0 ∷ [])) bs rest ∙ append_assoc c.name (0 ∷ []) (bs ++ rest) ∙ f.2, f.3)

step : (k : ℕ) (xs ys rest : Bytes) (c : Channel) (cs : List Channel) → ((b : ℕ) × (m : Bytes) × (xs ≡ b ∷ m) × (b ≡ 0 → ⊥)) →
    channel xs ≡ Ok (c, ys) → channels_in k ys ≡ Ok (cs, rest) → channels_in (suc k) xs ≡ Ok (c ∷ cs, rest)
unfolding channels_in
step k xs ys rest c cs (b, m, e, z) p q =
    ap (channels_in (suc k)) e
    ∙ ap (λ (t : Bool). cond t (Ok ([], m)) (next (channel (b ∷ m)) (λ c r. next (channels_in k r) (λ cs r. Ok (c ∷ cs, r))))) (ne_eqb b 0 z)
    ∙ ap (λ (a : Answer Channel). next a (λ c r. next (channels_in k r) (λ cs r. Ok (c ∷ cs, r)))) (ap channel (sym e) ∙ p)
    ∙ ap (λ (a : Answer (List Channel)). next a (λ cs r. Ok (c ∷ cs, r))) q

pub channels_back : (k : ℕ) (cs : List Channel) (xs rest : Bytes) → length cs < k → ChannelsAre cs xs → channels_in k (xs ++ rest) ≡ Ok (cs, rest)
unfolding channels_in ChannelsAre
channels_back zero cs xs rest h are = absurd (not-suc-le-zero h)
channels_back (suc k) [] xs rest h are = ap (λ (t : Bytes). channels_in (suc k) (t ++ rest)) are
channels_back (suc k) (c ∷ cs) xs rest h (bs, more, e, is, are) =
    ap (channels_in (suc k)) (ap (λ (t : Bytes). t ++ rest) e ∙ append_assoc bs more rest)
    ∙ step k (bs ++ (more ++ rest)) (more ++ rest) rest c cs (begins c bs (more ++ rest) is) (channel_back c bs (more ++ rest) is)
    (channels_back k cs more rest (le_of_suc-le-suc h) are)

-- a channel has a byte at least
pub some_bytes : (c : Channel) (bs : Bytes) → ChannelIs c bs → 1 ≤ length bs
some_bytes c bs is =
    let f = begins c bs [] is in
    let l : length (bs ++ []) ≡ suc (length f.1) = ap length f.2 in
    let m = length-append bs [] in
    omega arith

-- there are no more channels than bytes
pub few_channels : (cs : List Channel) (xs : Bytes) → ChannelsAre cs xs → length cs < length xs
unfolding ChannelsAre
few_channels [] xs are = let l : length xs ≡ 1 = ap length are in omega arith
few_channels (c ∷ cs) xs (bs, more, e, is, are) =
    let l : length xs ≡ length (bs ++ more) = ap length e in
    let m = length-append bs more in
    let ih = few_channels cs more are in
    let some = some_bytes c bs is in
    omega arith

pub channels_written : (cs : List Channel) → AllGood cs → ChannelsAre cs (channels_bytes cs)
unfolding ChannelsAre channels_bytes
channels_written [] g = refl
channels_written (c ∷ cs) g = (channel_bytes c, channels_bytes cs, refl, channel_written c g.0, channels_written cs g.1)

pub channels_asks : (k : ℕ) (xs : Bytes) → FirstNo (channels_questions k xs) (refusal (channels_in k xs))
unfolding channels_in channels_questions
channels_asks zero xs = inl ((λ h. omega arith), refl)
channels_asks (suc k) [] = inl ((λ h. omega arith), refl)
channels_asks (suc k) (b ∷ xs) = at (eqb b 0) (channel (b ∷ xs)) (channel_asks (b ∷ xs)) (channels_asks k (behind_channel (b ∷ xs)))
  where
    ended : (qs : List Question) (c : Channel) (a : Answer (List Channel)) → FirstNo qs (refusal a) → FirstNo qs (refusal (next a (λ cs r. Ok (c ∷ cs, r))))
    ended qs c (Ok p) f = f
    ended qs c (Err q) f = f

    joined : (qs rs : List Question) (x : Channel) (r : Bytes) (a : Answer Channel) → Asks qs x r a → FirstNo rs (refusal (channels_in k r)) →
        FirstNo (qs ++ rs) (refusal (next a (λ c r. next (channels_in k r) (λ cs r. Ok (c ∷ cs, r)))))
    joined qs rs x r (Err q) s f = no_more qs rs q s
    joined qs rs x r (Ok p) s f =
        ended (qs ++ rs) p.0 (channels_in k p.1)
        (subst (λ (z : Bytes). FirstNo (qs ++ rs) (refusal (channels_in k z))) (sym s.2) (all_then qs rs (refusal (channels_in k r)) s.0 f))

    at : (t : Bool) (a : Answer Channel) → Asks (channel_questions (b ∷ xs)) (channel_from (before_zero (b ∷ xs)) (numbers_at channel_fields (behind_name (b ∷ xs)))) (behind_channel (b ∷ xs)) a →
        FirstNo (channels_questions k (behind_channel (b ∷ xs))) (refusal (channels_in k (behind_channel (b ∷ xs)))) →
        FirstNo (cond t [] (channel_questions (b ∷ xs) ++ channels_questions k (behind_channel (b ∷ xs))))
        (refusal (cond t (Ok ([], xs)) (next a (λ c r. next (channels_in k r) (λ cs r. Ok (c ∷ cs, r))))))
    at true a s f = tt
    at false a s f = joined (channel_questions (b ∷ xs)) (channels_questions k (behind_channel (b ∷ xs))) _ (behind_channel (b ∷ xs)) a s f
