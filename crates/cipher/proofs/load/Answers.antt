use Rattle.cipher.specs.Key.{loaded}
use Rattle.cipher.proofs.load.Goals as goal

pub returns : goal.returns
unfolding loaded
returns c = simp c.key_words.ensures
