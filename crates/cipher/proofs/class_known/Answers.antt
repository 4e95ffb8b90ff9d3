use Rattle.cipher.specs.Key.{class_known}
use Rattle.cipher.proofs.class_known.Goals as goal

pub returns-then-mcrypton_class : goal.returns-then-mcrypton_class
unfolding class_known
returns-then-mcrypton_class c = rw (← c.mcrypton_class.ensures, c.if-mcrypton_class.true)

pub returns-else-mcrypton_class : goal.returns-else-mcrypton_class
unfolding class_known
returns-else-mcrypton_class c = rw (← c.mcrypton_class.ensures, c.if-mcrypton_class.false) c.present_class.ensures
