-- What the code of a source has: variables of file scope and locals alone, and no annotations.
use Rattle.std.specs.Prelude.{◌≡◌, ℕ, ◌+◌, ◌*◌, ◌<◌, List, [], ◌∷◌, Option, Some, None}
use Rattle.step_meaning.specs.declared.value.NameKind.{NameKind}
use Rattle.step_meaning.specs.declared.value.NameKind.TheVariants.{Global, Local}
use Rattle.step_meaning.specs.declared.expr.Variable.{Variable}
use Rattle.step_meaning.specs.declared.expr.Expr.{Expr, Row_of-Expr, end_of-Expr, more_of-Expr}
use Rattle.step_meaning.specs.declared.expr.Expr.TheVariants.{Literal, Null, Load, Address, Convert', Unary', Binary', Compare', Move', Difference', Not', Both', Either', Choose', Assign', Update', Invoke', GetChar, PutChar', Malloc', Free', Discard', Own, Deref', Member', Index'}
use Rattle.step_meaning.specs.declared.expr.Place_.{Place_, end_of-Place_, more_of-Place_}
use Rattle.step_meaning.specs.declared.stmt.Stmt.{Stmt, Row_of-Stmt, end_of-Stmt, more_of-Stmt}
use Rattle.step_meaning.specs.declared.stmt.Stmt.TheVariants.{Empty, Eval, Init, Block', If', While', Do', For', Break, Continue, Return, Ghost, Assert}
use Rattle.step_meaning.specs.TypeRules.{cells}
use Rattle.step_meaning.specs.Settings.{Setting, variable_type}
use Rattle.normal_laws.specs.NormalForm.{Part, MemberAt, ElementAt, cell_parts, or_void}

abbrev pub IsSourceKind : NameKind → Type 0
IsSourceKind Global = Unit {0}
IsSourceKind Local = Unit {0}
IsSourceKind _ = ⊥

abbrev pub IsLocal : NameKind → Type 0
IsLocal Local = Unit {0}
IsLocal _ = ⊥

abbrev mutual
  pub IsSourceExpression : Expr → Type 0
  IsSourceExpression (Literal k z) = Unit {0}
  IsSourceExpression Null = Unit {0}
  IsSourceExpression (Load p t) = IsSourcePlace p
  IsSourceExpression (Address p t) = IsSourcePlace p
  IsSourceExpression (Convert' k b (more_of-Expr e end_of-Expr)) = IsSourceExpression e
  IsSourceExpression (Unary' o k b (more_of-Expr e end_of-Expr)) = IsSourceExpression e
  IsSourceExpression (Binary' o k b (more_of-Expr e end_of-Expr) c (more_of-Expr f end_of-Expr)) = IsSourceExpression e × IsSourceExpression f
  IsSourceExpression (Compare' o b (more_of-Expr e end_of-Expr) c (more_of-Expr f end_of-Expr)) = IsSourceExpression e × IsSourceExpression f
  IsSourceExpression (Move' b (more_of-Expr e end_of-Expr) c (more_of-Expr f end_of-Expr) size side) = IsSourceExpression e × IsSourceExpression f
  IsSourceExpression (Difference' b (more_of-Expr e end_of-Expr) c (more_of-Expr f end_of-Expr) unit) = IsSourceExpression e × IsSourceExpression f
  IsSourceExpression (Not' b (more_of-Expr e end_of-Expr)) = IsSourceExpression e
  IsSourceExpression (Both' b (more_of-Expr e end_of-Expr) c (more_of-Expr f end_of-Expr)) = IsSourceExpression e × IsSourceExpression f
  IsSourceExpression (Either' b (more_of-Expr e end_of-Expr) c (more_of-Expr f end_of-Expr)) = IsSourceExpression e × IsSourceExpression f
  IsSourceExpression (Choose' b (more_of-Expr e end_of-Expr) c (more_of-Expr f end_of-Expr) d (more_of-Expr h end_of-Expr)) = IsSourceExpression e × IsSourceExpression f × IsSourceExpression h
  IsSourceExpression (Assign' p t b (more_of-Expr e end_of-Expr)) = IsSourcePlace p × IsSourceExpression e
  IsSourceExpression (Update' p t o b (more_of-Expr e end_of-Expr) w) = IsSourcePlace p × IsSourceExpression e
  IsSourceExpression (Invoke' f b es) = AreSourceExpressions es
  IsSourceExpression GetChar = Unit {0}
  IsSourceExpression (PutChar' b (more_of-Expr e end_of-Expr)) = IsSourceExpression e
  IsSourceExpression (Malloc' b (more_of-Expr e end_of-Expr) t) = IsSourceExpression e
  IsSourceExpression (Free' b (more_of-Expr e end_of-Expr)) = IsSourceExpression e
  IsSourceExpression (Discard' b (more_of-Expr e end_of-Expr)) = IsSourceExpression e

  pub AreSourceExpressions : {n : _} → Row_of-Expr n → Type 0
  AreSourceExpressions end_of-Expr = Unit {0}
  AreSourceExpressions (more_of-Expr e es) = IsSourceExpression e × AreSourceExpressions es

  pub IsSourcePlace : Place_ → Type 0
  IsSourcePlace (Own v) = IsSourceKind v.kind
  IsSourcePlace (Deref' b (more_of-Expr e end_of-Expr)) = IsSourceExpression e
  IsSourcePlace (Member' b (more_of-Place_ p end_of-Place_) o) = IsSourcePlace p
  IsSourcePlace (Index' b (more_of-Place_ p end_of-Place_) c (more_of-Expr e end_of-Expr) size) = IsSourcePlace p × IsSourceExpression e

-- where the part begins in its object
abbrev pub part_offset : Part → ℕ
part_offset (MemberAt o t) = o
part_offset (ElementAt i size t) = i * size

abbrev pub parts_offset : List Part → ℕ
parts_offset [] = 0
parts_offset (x ∷ xs) = part_offset x + parts_offset xs

abbrev pub IsSourceExpressionIfAny : Option Expr → Type 0
IsSourceExpressionIfAny None = Unit {0}
IsSourceExpressionIfAny (Some e) = IsSourceExpression e

module _ (g : Setting) where
  -- a local's cell, which the parts of its type reach
  pub record IsInitialised (v : Variable) (o : ℕ) : Type 0 where
    pub local : IsLocal v.kind
    pub reached : parts_offset (cell_parts g.layouts (or_void (variable_type g v)) o) ≡ o
    pub inside : o < cells g.layouts (or_void (variable_type g v))

  abbrev mutual
    pub IsSourceStatement : Stmt → Type 0
    IsSourceStatement Empty = Unit {0}
    IsSourceStatement (Eval e) = IsSourceExpression e
    IsSourceStatement (Init v o t e) = IsSourceExpression e × IsInitialised v o
    IsSourceStatement (Block' b ss) = AreSourceStatements ss
    IsSourceStatement (If' e b (more_of-Stmt s end_of-Stmt) c (more_of-Stmt u end_of-Stmt)) = IsSourceExpression e × IsSourceStatement s × IsSourceStatement u
    IsSourceStatement (While' e b (more_of-Stmt s end_of-Stmt)) = IsSourceExpression e × IsSourceStatement s
    IsSourceStatement (Do' b (more_of-Stmt s end_of-Stmt) e) = IsSourceExpression e × IsSourceStatement s
    IsSourceStatement (For' test step b (more_of-Stmt s end_of-Stmt)) = IsSourceExpressionIfAny test × IsSourceExpressionIfAny step × IsSourceStatement s
    IsSourceStatement Break = Unit {0}
    IsSourceStatement Continue = Unit {0}
    IsSourceStatement (Return e) = IsSourceExpressionIfAny e
    IsSourceStatement (Ghost s) = ⊥
    IsSourceStatement (Assert v k r) = ⊥

    pub AreSourceStatements : {n : _} → Row_of-Stmt n → Type 0
    AreSourceStatements end_of-Stmt = Unit {0}
    AreSourceStatements (more_of-Stmt s ss) = IsSourceStatement s × AreSourceStatements ss

  abbrev pub IsSourceBody : List Stmt → Type 0
  IsSourceBody [] = Unit {0}
  IsSourceBody (s ∷ ss) = IsSourceStatement s × IsSourceBody ss
