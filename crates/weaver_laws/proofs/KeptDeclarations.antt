-- Weaving keeps all of a core but its code and its ghost variables.
use Rattle.std.proofs.Common.{◌≡◌, ℕ, suc, Bool, List, [], ◌∷◌, map, refl, ap, ap₂}
use Rattle.step_meaning.specs.declared.program.Core.{Core}
use Rattle.step_meaning.specs.declared.program.Function.{Function}
use Rattle.step_meaning.specs.declared.program.Hooks.{Hooks}
use Rattle.step_meaning.specs.ExpressionTypes.{has_body}
use Rattle.weaver_laws.specs.KeptDeclarations.{declaration, WovenKeeps}
use Rattle.weaver_laws.specs.Weaving.{woven_functions}
use Rattle.weaver_laws.specs.Joining.{joined}
use Rattle.weaver_laws.proofs.WovenTypes.{body_kept}

declarations_same : (q : Core) (h : Hooks) (n : ℕ) (fs : List Function) → map declaration (woven_functions q h n fs) ≡ map declaration fs
declarations_same q h n [] = refl
declarations_same q h n (f ∷ fs) = ap (λ ds. declaration f ∷ ds) (declarations_same q h (suc n) fs)

bodies_same : (q : Core) (h : Hooks) (n : ℕ) (fs : List Function) → map has_body (woven_functions q h n fs) ≡ map has_body fs
bodies_same q h n [] = refl
bodies_same q h n (f ∷ fs) = ap₂ (λ (b : Bool) bs. b ∷ bs) (body_kept q h n f) (bodies_same q h (suc n) fs)

pub woven_keeps : WovenKeeps
woven_keeps p hs =
    record {
      layouts = refl;
      globals = refl;
      initial = refl;
      start = refl;
      declarations = declarations_same p (joined hs) 0 p.functions;
      bodies = bodies_same p (joined hs) 0 p.functions;
    }
