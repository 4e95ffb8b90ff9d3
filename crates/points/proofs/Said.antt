-- The names of the struct's fields.
use mathlib.Core.Path.{refl}
use Rattle.points.specs.Pointed.{Named}

pub named : Named
named = record { number = λ p b. refl; length = λ p b. refl; rule = λ p b. refl; slot = λ p b. refl; place = λ p b. refl }
