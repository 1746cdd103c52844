-- What comes of weaving hooks that fit together is well formed, in normal form and printable.
use Rattle.std.proofs.Common.{ℕ, ◌≤◌, List, refl, sym, subst}
use Rattle.std.specs.Prelude.{nat_le, IsTrue}
use Rattle.std.proofs.lemmas.Bool.{and_from, le-leb}
use Rattle.step_meaning.specs.declared.program.Hooks.{Hooks}
use Rattle.step_meaning.specs.declared.program.Core.{Core}
use Rattle.step_meaning.specs.StatementRules.{is_monitor}
use Rattle.step_meaning.specs.Fit.{IsMonitorOf, FitTogether}
use Rattle.weaver_laws.specs.Joining.{joined}
use Rattle.weaver_laws.specs.WovenForm.{WovenFormed, WovenPrintable}
use Rattle.weaver_laws.proofs.JoinedParts.{at_index}
use Rattle.weaver_laws.proofs.FewHooks.{joined_fits_few}
use Rattle.weaver_laws.proofs.WovenFormed.{woven_formed}
use Rattle.weaver_laws.proofs.WovenNormal.{normal_stays}
use Rattle.weaver_laws.proofs.WovenPrintable.{woven_printable}

monitor_is : (q : Core) (hs : List Hooks) → FitTogether q hs → (m : ℕ) → IsMonitorOf hs m → IsTrue (is_monitor m)
monitor_is q hs fits m x =
    let c = x.1 in
    let b = subst (λ (h : Hooks). (1 ≤ h.monitor) × (h.monitor ≤ 16)) c.2 (at_index (λ (h : Hooks). (1 ≤ h.monitor) × (h.monitor ≤ 16)) hs c.0 x.0 c.1 fits.from_one) in
    subst (λ m. IsTrue (is_monitor m)) (sym x.2) (and_from (nat_le 1 x.0.monitor) (nat_le x.0.monitor 16) (le-leb 1 x.0.monitor b.0) (le-leb x.0.monitor 16 b.1))

pub woven_forms : WovenFormed
woven_forms p hs formed normal bare returns fits =
    (woven_formed (IsMonitorOf hs) (monitor_is p hs fits) p (joined hs) formed normal bare returns (joined_fits_few p hs fits) refl, normal_stays p (joined hs) normal)

pub woven_prints : WovenPrintable
woven_prints p hs formed normal bare returns sizes fits = woven_printable (IsMonitorOf hs) (monitor_is p hs fits) p (joined hs) formed normal bare returns sizes (joined_fits_few p hs fits) refl
