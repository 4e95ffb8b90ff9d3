-- The fields that cross are what their names say.
use mathlib.Core.Path.{refl}
use Rattle.captions_c.specs.Named.{Named}

pub named : Named
named =
    record {
      answer_number_lem = λ a bytes. refl;
      answer_length_lem = λ a bytes. refl;
      answer_bytes = λ a bytes. refl;
      plain_number = λ o. refl;
      plain_length = λ o. refl;
      plain_bytes = λ o. refl;
      day_number_lem = λ d. refl;
      day_day = λ d. refl;
      date_number = λ d. refl;
      date_year = λ d. refl;
      date_month = λ d. refl;
      date_day = λ d. refl;
    }
