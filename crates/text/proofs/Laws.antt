-- What holds of well-formed text.
use Prim.Native.Nat.{ℕ, ◌<◌}
use mathlib.Core.Path.{◌≡◌, refl, sym, ◌∙◌, subst}
use mathlib.Core.List.{List, [], append-nil}
use lib.ListN.{length, take}
use lib.Seq.{take-length}
use native.Mathlib.Omega.{arith}
use Rattle.text.specs.Grammar.{forms, inside, after, some, meets, well_formed, Utf8}
use Rattle.text.specs.Encoding.{CodePoint, end, point, encode_one, encode}
use Rattle.text.specs.Place.{BreaksAt, furthest, reached, broken_at}
use Rattle.text.specs.Laws.{Texts, Encodings, Breaks, TextLaws}
use Rattle.text.proofs.Grammar.{tested}
use Rattle.text.proofs.Encoding.{exactly, only, points, bits_1, bits_2, bits_3, bits_4, in_a_row}
use Rattle.text.proofs.Place.{breaks_at, one_place}

low : (n : ℕ) → n < 0xD800 → CodePoint n
low n h = record { in_range = omega arith; no_surrogate = λ p q. omega arith }

high : (n : ℕ) → 0xDFFF < n → n < 0x110000 → CodePoint n
high n l h = record { in_range = h; no_surrogate = λ p q. omega arith }

texts : Texts
unfolding forms inside after some meets well_formed encode_one encode furthest reached broken_at
texts =
    record {
      example_1 = record { encoded = refl; each = point (low 0x0041 (omega arith)) (point (low 0x2262 (omega arith)) (point (low 0x0391 (omega arith)) (point (low 0x002E (omega arith)) end))); accepted = refl; place = refl };
      example_2 = record { encoded = refl; each = point (low 0xD55C (omega arith)) (point (low 0xAD6D (omega arith)) (point (low 0xC5B4 (omega arith)) end)); accepted = refl; place = refl };
      example_3 = record { encoded = refl; each = point (low 0x65E5 (omega arith)) (point (low 0x672C (omega arith)) (point (low 0x8A9E (omega arith)) end)); accepted = refl; place = refl };
      example_4 = record { encoded = refl; each = point (high 0xFEFF (omega arith) (omega arith)) (point (high 0x233B4 (omega arith) (omega arith)) end); accepted = refl; place = refl };
      nothing = record { encoded = refl; each = end; accepted = refl; place = refl };
      zero = record { encoded = refl; each = point (low 0x0000 (omega arith)) end; accepted = refl; place = refl };
      last = record { encoded = refl; each = point (high 0x10FFFF (omega arith) (omega arith)) end; accepted = refl; place = refl };
      overlong_2 = record { refused = refl; place = refl };
      overlong_3 = record { refused = refl; place = refl };
      overlong_4 = record { refused = refl; place = refl };
      surrogate = record { refused = refl; place = refl };
      above_F4 = record { refused = refl; place = refl };
      above_F5 = record { refused = refl; place = refl };
      tail_alone = record { refused = refl; place = refl };
      cut_off_2 = record { refused = refl; place = refl };
      cut_off_3 = record { refused = refl; place = refl };
      cut_off_4 = record { refused = refl; place = refl };
      cut_off_within = record { refused = refl; place = refl };
    }

whole : (s : List ℕ) → Utf8 s → broken_at s ≡ length s
whole s t =
    one_place s (broken_at s) (length s) (breaks_at s)
    (record { within = omega arith; goes = record { rest = []; text = subst Utf8 (sym (append-nil (take (length s) s) ∙ take-length s)) t }; breaks = λ h g. omega arith })

encodings : Encodings
encodings =
    record {
      code_point = λ n. (λ c. (c.in_range, c.no_surrogate), λ h. record { in_range = h.0; no_surrogate = h.1 });
      no_points = end;
      points = points;
      bits_1 = bits_1;
      bits_2 = bits_2;
      bits_3 = bits_3;
      bits_4 = bits_4;
      in_a_row = in_a_row;
      made = λ ns each. record { points = ns; each = each; bytes = refl };
      encoded = λ s r. (r.each, r.bytes);
    }

breaks : Breaks
breaks =
    record {
      within = λ s. (breaks_at s).within;
      before = λ s. (breaks_at s).goes;
      goes_on = λ s g. g.text;
      at = λ s rest l t. (breaks_at s).breaks l (record { rest = rest; text = t });
      whole = whole;
      place = λ s p. (λ b. one_place s (broken_at s) p (breaks_at s) b, λ e. subst (BreaksAt s) e (breaks_at s));
    }

pub text_laws : TextLaws
text_laws = record { tested = tested; exactly = exactly; only = only; encodings = encodings; breaks = breaks; texts = texts }
