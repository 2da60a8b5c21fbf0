use Rattle.exr_time_code.specs.Times.{code_of_words}
use Rattle.exr_time_code.proofs.reading.of_words.Goals as goal

pub returns : goal.returns
unfolding code_of_words
returns c = c.from_tv60_time.ensures
