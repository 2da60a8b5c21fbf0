use Rattle.std.proofs.Common.{refl}
use Rattle.layout.specs.TimeCodes.{time_numbers}
use Rattle.layout.specs.Kinds.{find, kind_named}
use Rattle.layout.specs.Channels.{channel_bytes, channels_bytes}
use Rattle.layout.specs.Values.{kind_of, bytes_of, loaded_form}
use Rattle.layout.specs.Decode.{known, read_value}
use Rattle.layout.specs.Puts.{value_ask}
use Rattle.layout.proofs.examples_hold.Goals as goal

pub returns : goal.returns
unfolding time_numbers find kind_named channel_bytes channels_bytes kind_of bytes_of loaded_form known read_value value_ask
returns c = record { int_5 = refl; empty = refl; box = refl; widest_made = refl; wider_refused = refl; time_bytes = refl; frame_29 = refl; frame_30 = refl; one_channel = refl; units_15 = refl; saved_15 = refl }
