-- Channels and their lists.
use Rattle.std.specs.Prelude.{◌≡◌, ℕ, zero, suc, ◌<◌, ◌≤◌, cond, List, [], ◌∷◌, ◌++◌, length, drop, Ok, Err, ◌==◌, slice_index}
use Rattle.layout.specs.Numbers.{Bytes}
use Rattle.layout.specs.Questions.{Answer, next}
use Rattle.layout.specs.Questions.{Question}
use Rattle.layout.specs.Fields.{Field, reserved, up_to, fields, field_bytes, Numbers, Held, field_questions, size}
use Rattle.layout.specs.Names.{Named, before_zero, channel_name}

-- a channel: its name, the code of its sample type, its linearity, and its sampling on both axes
pub record Channel : Type 0 where
  pub name : Bytes
  pub sample : ℕ
  pub linear : ℕ
  pub x : ℕ
  pub y : ℕ

-- what stands behind a channel's name
abbrev pub channel_fields : List Field
channel_fields = up_to 4 7 2 ∷ up_to 1 7 1 ∷ reserved ∷ reserved ∷ reserved ∷ up_to 4 10 2147483647 ∷ up_to 4 10 2147483647 ∷ []

abbrev pub channel_numbers : Channel → List ℕ
channel_numbers c = c.sample ∷ c.linear ∷ 0 ∷ 0 ∷ 0 ∷ c.x ∷ c.y ∷ []

abbrev pub channel_from : Bytes → List ℕ → Channel
channel_from n ns = record { name = n; sample = slice_index ns 0; linear = slice_index ns 1; x = slice_index ns 5; y = slice_index ns 6 }

-- ---- reading and writing

unfoldable pub channel : Bytes → Answer Channel
channel xs = next (channel_name xs) (λ n r. next (fields channel_fields r) (λ ns r. Ok (channel_from n ns, r)))

-- channels up to a 00, of which there are at most so many
unfoldable pub channels_in : ℕ → Bytes → Answer (List Channel)
channels_in zero xs = Err 6
channels_in (suc k) [] = Err 6
channels_in (suc k) (b ∷ xs) =
    cond (b == 0) (Ok ([], xs)) (next (channel (b ∷ xs)) (λ c r. next (channels_in k r) (λ cs r. Ok (c ∷ cs, r))))

abbrev pub channels : Bytes → Answer (List Channel)
channels xs = channels_in (suc (length xs)) xs

unfoldable pub channel_bytes : Channel → Bytes
channel_bytes c = (c.name ++ (0 ∷ [])) ++ field_bytes channel_fields (channel_numbers c)

unfoldable pub channels_bytes : List Channel → Bytes
channels_bytes [] = 0 ∷ []
channels_bytes (c ∷ cs) = channel_bytes c ++ channels_bytes cs

-- ---- what the bytes mean

-- a name of at most 255 bytes, none zero, and 00; then the fields
unfoldable pub ChannelIs : Channel → Bytes → Type 0
ChannelIs c xs = (bs : Bytes) × (xs ≡ (c.name ++ (0 ∷ [])) ++ bs) × Named c.name × Numbers channel_fields (channel_numbers c) bs

unfoldable pub ChannelsAre : List Channel → Bytes → Type 0
ChannelsAre [] xs = xs ≡ 0 ∷ []
ChannelsAre (c ∷ cs) xs = (bs : Bytes) × (rest : Bytes) × (xs ≡ bs ++ rest) × ChannelIs c bs × ChannelsAre cs rest

unfoldable pub ChannelGood : Channel → Type 0
ChannelGood c = Named c.name × Held channel_fields (channel_numbers c)

abbrev pub AllGood : List Channel → Type 0
AllGood [] = Unit {0}
AllGood (c ∷ cs) = ChannelGood c × AllGood cs

-- ---- the questions, field by field

-- what stands behind the name, and behind the channel
abbrev pub behind_name : Bytes → Bytes
behind_name xs = drop (suc (length (before_zero xs))) xs

abbrev pub behind_channel : Bytes → Bytes
behind_channel xs = drop (size channel_fields) (behind_name xs)

abbrev pub channel_questions : Bytes → List Question
channel_questions xs =
    (9, length (before_zero xs) ≤ 255) ∷ (6, length (before_zero xs) < length xs) ∷ field_questions channel_fields (behind_name xs)

unfoldable pub channels_questions : ℕ → Bytes → List Question
channels_questions zero xs = (6, 0 < 0) ∷ []
channels_questions (suc k) [] = (6, 0 < 0) ∷ []
channels_questions (suc k) (b ∷ xs) = cond (b == 0) [] (channel_questions (b ∷ xs) ++ channels_questions k (behind_channel (b ∷ xs)))
