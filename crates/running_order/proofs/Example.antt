-- The exhibited sheet, computed on three days, and calls.
use mathlib.Core.Path.{refl}
use Rattle.octets.specs.Bytes.{be, number, zeros, all_zero, same, all_below, put}
use Rattle.octets.specs.Outcome.{decided}
use Rattle.cipher.specs.Key.{mcrypton_class, class_known}
use Rattle.calendar.specs.Calendar.{leap, year_days, month_days, years_sum, months_sum, days_before_year, days_before_month, day_number, first_date, next_date, date_of, is_date, day_of_date, date_of_day}
use Rattle.layout.specs.Layout.{slots, key_class, edition_byte, last_write, rule1, rule3, edition_of, sheet_size, mark_at, field_at, slot_count, mark, field, mark_number, mark_length, written_mark, blank_slot, fit_slot, fit_in, fit}
use Rattle.terms.specs.Terms.{count, opening, closing, fit_terms, on_show}
use Rattle.terms.specs.Laws.{day_bytes, term_sheet}
use Rattle.dates.specs.DateText.{date_text, day_text, digit_at, two_at, year_in, day_of_text}
use Rattle.listing.specs.Listing.{digits, decimal, line}
use Rattle.sorting.specs.Sorting.{insert, sorted}
use Rattle.running_order.specs.Order.{shown, show_line, show_lines, order_number, shown_numbers, in_order, running_order}
use Rattle.running_order.specs.Calls.{order_outcome, order_tests, ordering}
use Rattle.running_order.specs.Example.{a_mark, example_sheet, example_terms}
use Rattle.running_order.specs.Laws.{on_first, cut_at, Exhibited}

pub exhibited : Exhibited
unfolding number zeros all_zero all_below same be put decided mcrypton_class class_known slots key_class edition_byte last_write rule1 rule3 edition_of sheet_size mark_at field_at slot_count mark field mark_number mark_length written_mark blank_slot fit_slot fit_in fit digits decimal line count opening closing fit_terms on_show day_bytes term_sheet leap year_days month_days years_sum months_sum days_before_year days_before_month day_number first_date next_date date_of is_date day_of_date date_of_day date_text day_text digit_at two_at year_in day_of_text insert sorted shown show_line show_lines order_number shown_numbers in_order running_order order_outcome order_tests ordering a_mark example_sheet example_terms on_first cut_at
exhibited =
    record {
      terms_are = refl;
      sheet_starts = refl;
      example = refl;
      day_before = refl;
      day_after_lem = refl;
      no_day = refl;
      torn = refl;
      torn_terms = refl;
      no_terms = refl;
      exchanged = refl;
      cut = refl;
      lines_put = refl;
      too_short = refl;
      unfit_put = refl;
      nothing_put = refl;
    }
