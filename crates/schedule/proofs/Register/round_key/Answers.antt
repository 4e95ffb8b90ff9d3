use Rattle.schedule.specs.Schedule.{constants, register_t}
use Rattle.schedule.proofs.Registers.{constant_lt}
use Rattle.schedule.proofs.Keys.{round_key_is}
use borrow.Author.Rules.{rules}
use Rattle.schedule.proofs.Register.round_key.Goals as goal

pub t_nibble-requires : goal.t_nibble-requires
unfolding constants
t_nibble-requires c = (constant_lt c.args.self.round c.requires, search rules)

pub t_nibble-requires-2 : goal.t_nibble-requires-2
unfolding constants
t_nibble-requires-2 c = (constant_lt c.args.self.round c.requires, search rules)

pub t_nibble-requires-3 : goal.t_nibble-requires-3
unfolding constants
t_nibble-requires-3 c = (constant_lt c.args.self.round c.requires, search rules)

pub t_nibble-requires-4 : goal.t_nibble-requires-4
unfolding constants
t_nibble-requires-4 c = (constant_lt c.args.self.round c.requires, search rules)

pub returns : goal.returns
unfolding register_t constants
returns c = round_key_is c.args.self c.t_nibble.ensures.value c.t_nibble-2.ensures.value c.t_nibble-3.ensures.value c.last.ensures c.t_nibble-4.ensures.value
