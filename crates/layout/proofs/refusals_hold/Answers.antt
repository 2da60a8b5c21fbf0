use Rattle.std.proofs.Common.{refl}
use Rattle.layout.specs.Names.{before_zero, channel_name}
use Rattle.layout.specs.Kinds.{find, kind_named}
use Rattle.layout.specs.Channels.{channel, channels_in}
use Rattle.layout.specs.Texts.{counted, texts_in}
use Rattle.layout.specs.Decode.{known, read_value, decode}
use Rattle.layout.specs.Names.{named}
use Rattle.layout.specs.Channels.{channel_bytes, channels_bytes}
use Rattle.layout.specs.Texts.{texts_bytes}
use Rattle.layout.specs.Values.{bytes_of, loaded_form, kept}
use Rattle.layout.specs.Puts.{value_ask}
use Rattle.layout.proofs.refusals_hold.Goals as goal

pub returns : goal.returns
unfolding before_zero channel_name find kind_named channel channels_in counted texts_in known read_value decode named channel_bytes channels_bytes texts_bytes bytes_of loaded_form kept value_ask
returns c = (
  record { short = refl; surplus = refl; nan = refl; infinite = refl; compression_11 = refl; compression_12 = refl; envmap_2 = refl; line_order_3 = refl; mode_18 = refl; mode_3 = refl; mode_32 = refl; pixels = refl; negative_text = refl; long_text = refl; missing_text = refl; empty_text = refl; long_hint = refl; missing_hint = refl; reserved = refl; sample_3 = refl; linear_2 = refl; negative_x = refl; negative_y = refl; no_end = refl; name_256 = refl; name_255 = refl; box_out = refl; box_turned = refl; frame_30 = refl; box_taken = refl; preview_taken = refl; string_taken = refl; bytes_taken = refl; custom_taken = refl },
  record { no_kind = refl; known_kind = refl; other_kind = refl; no_place = refl; no_name = refl; sampling = refl; sampled = refl; no_text = refl; wide = refl; wide_fits = refl; pixels_missing = refl; group_16 = refl; long = refl; long_fits = refl },
  record { keep_int = refl; keep_rational = refl; keep_v2i = refl; keep_v3i = refl; keep_keycode = refl; keep_float = refl; keep_v2f = refl; keep_v3f = refl; keep_box2f = refl; keep_chromaticities = refl; keep_m33f = refl; keep_m44f = refl; keep_double = refl },
)
