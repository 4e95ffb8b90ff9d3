-- Two machines that are fed the same calls: where each call keeps a relation between them, so does every list.
use mathlib.Core.Path.{◌≡◌, refl, ap₂}
use mathlib.Core.List.{List, [], ◌∷◌}
use Rattle.captions.specs.Runs.{Reply, replies, finally, HandedOn}

pub handed_on : {C S : Type 0} (step : C → S → Reply × S) → HandedOn step
unfolding replies finally
handed_on step = record { no_reply = λ s. refl; no_call = λ s. refl; reply = λ c cs s. refl; call = λ c cs s. refl }

-- every call of a list is one of those
pub data Every {C : Type 0} (P : C → Type 0) : List C → Type 0 where
  done : Every P []
  more : {c : C} {cs : List C} → P c → Every P cs → Every P (c ∷ cs)

module _ {C S T : Type 0} (step : C → S → Reply × S) (model : C → T → Reply × T) (P : C → Type 0) (R : S → T → Type 0)
    (same : (c : C) (s : S) (t : T) → P c → R s t → (step c s).0 ≡ (model c t).0)
    (kept : (c : C) (s : S) (t : T) → P c → R s t → R (step c s).1 (model c t).1) where
  pub same_replies : {cs : List C} (s : S) (t : T) → Every P cs → R s t → replies step cs s ≡ replies model cs t
  unfolding replies
  same_replies s t done r = refl
  same_replies s t (more {c} {cs} p ps) r =
      ap₂ (λ (x : Reply) (xs : List Reply). x ∷ xs) (same c s t p r) (same_replies (step c s).1 (model c t).1 ps (kept c s t p r))

  pub related_finally : {cs : List C} (s : S) (t : T) → Every P cs → R s t → R (finally step cs s) (finally model cs t)
  unfolding finally
  related_finally s t done r = r
  related_finally s t (more {c} {cs} p ps) r = related_finally (step c s).1 (model c t).1 ps (kept c s t p r)
