-- What the abstract syntax of a parsed text keeps besides the rules on types: names are identifiers and no keywords, characters have values of `int`, braces and structs aren't empty, and the parameters of a function with a body have names.
use Rattle.std.specs.Prelude.{ℕ, pos, List, [], ◌∷◌, Option, Some, None, IsTrue}
use Rattle.std.specs.List.{AllByRecursion}
use Rattle.c_lexer.specs.Lexemes.{character_value}
use Rattle.c_words.specs.declared.word.Leaf.{Leaf}
use Rattle.c_words.specs.Words as words
use Rattle.step_meaning.specs.declared.value.IntKind.TheVariants as kind
use Rattle.step_meaning.specs.Numbers.{is_in_range}
use Rattle.step_meaning.specs.Identifiers.{is_name}
use Rattle.typing_rules.specs.Syntax.{Expression, Expressions, Name, Number, Character, Paren, Call, Index, Member, Arrow, Increment, Decrement, Prefix, Cast, SizeOf, SizeOfType, Binary, Choose, Assign, NoMore, Then, Declarator, Initialiser, Initialisers, Value, Braces, NoElement, Element, Declared, Parameter, Local, Statement, Nothing, Evaluate, Block, Declare, If, IfElse, While, Do, For, Break, Continue, Return, Ghost, Assert, Statements, End, Next, ForFirst, NoFirst, FirstValue, FirstLocal, Members, Item, Struct, Variables, Function, Meta, GhostVariable}

abbrev pub IfThere : {A : Type 0} → (A → Type 0) → Option A → Type 0
IfThere P None = Unit {0}
IfThere P (Some a) = P a

module _ (text : List ℕ) where
  abbrev pub IsName : Leaf → Type 0
  IsName t = IsTrue (is_name (words.bytes_of text t.token))

  -- ---- expressions

  abbrev pub IsCharacter : Leaf → Type 0
  IsCharacter t = IsTrue (is_in_range kind.Int (pos (character_value (words.bytes_of text t.token))))

  abbrev mutual
    pub ExpressionParsed : Expression → Type 0
    ExpressionParsed (Name t) = Unit {0}
    ExpressionParsed (Number t) = Unit {0}
    ExpressionParsed (Character t) = IsCharacter t
    ExpressionParsed (Paren t x) = ExpressionParsed x
    ExpressionParsed (Call t xs) = ExpressionsParsed xs
    ExpressionParsed (Index x t i) = ExpressionParsed x × ExpressionParsed i
    ExpressionParsed (Member x t m) = ExpressionParsed x
    ExpressionParsed (Arrow x t m) = ExpressionParsed x
    ExpressionParsed (Increment x t) = ExpressionParsed x
    ExpressionParsed (Decrement x t) = ExpressionParsed x
    ExpressionParsed (Prefix t x) = ExpressionParsed x
    ExpressionParsed (Cast t u x) = ExpressionParsed x
    ExpressionParsed (SizeOf t x) = ExpressionParsed x
    ExpressionParsed (SizeOfType t u) = Unit {0}
    ExpressionParsed (Binary x t y) = ExpressionParsed x × ExpressionParsed y
    ExpressionParsed (Choose x t y z) = ExpressionParsed x × ExpressionParsed y × ExpressionParsed z
    ExpressionParsed (Assign x t y) = ExpressionParsed x × ExpressionParsed y

    pub ExpressionsParsed : Expressions → Type 0
    ExpressionsParsed NoMore = Unit {0}
    ExpressionsParsed (Then x xs) = ExpressionParsed x × ExpressionsParsed xs

  -- ---- declarations

  abbrev pub HasElement : Initialisers → Type 0
  HasElement NoElement = ⊥
  HasElement (Element x xs) = Unit {0}

  abbrev mutual
    pub InitialiserParsed : Initialiser → Type 0
    InitialiserParsed (Value x) = ExpressionParsed x
    InitialiserParsed (Braces t xs) = HasElement xs × InitialisersParsed xs

    pub InitialisersParsed : Initialisers → Type 0
    InitialisersParsed NoElement = Unit {0}
    InitialisersParsed (Element x xs) = InitialiserParsed x × InitialisersParsed xs

  abbrev pub DeclaredParsed : Declared → Type 0
  DeclaredParsed d = IsName d.declarator.name × IfThere InitialiserParsed d.initialiser

  abbrev pub AllDeclaredParsed : List Declared → Type 0
  AllDeclaredParsed ds = AllByRecursion DeclaredParsed ds

  -- ---- statements

  abbrev pub LocalParsed : Local → Type 0
  LocalParsed l = AllDeclaredParsed l.declared

  abbrev pub ForFirstParsed : ForFirst → Type 0
  ForFirstParsed NoFirst = Unit {0}
  ForFirstParsed (FirstValue x) = ExpressionParsed x
  ForFirstParsed (FirstLocal l) = LocalParsed l

  abbrev mutual
    pub StatementParsed : Statement → Type 0
    StatementParsed Nothing = Unit {0}
    StatementParsed (Evaluate x) = ExpressionParsed x
    StatementParsed (Block ss) = StatementsParsed ss
    StatementParsed (Declare l) = LocalParsed l
    StatementParsed (If x s) = ExpressionParsed x × StatementParsed s
    StatementParsed (IfElse x s r) = ExpressionParsed x × StatementParsed s × StatementParsed r
    StatementParsed (While x s) = ExpressionParsed x × StatementParsed s
    StatementParsed (Do s x) = StatementParsed s × ExpressionParsed x
    StatementParsed (For first x step s) = ForFirstParsed first × IfThere ExpressionParsed x × IfThere ExpressionParsed step × StatementParsed s
    StatementParsed (Break t) = Unit {0}
    StatementParsed (Continue t) = Unit {0}
    StatementParsed (Return t x) = IfThere ExpressionParsed x
    StatementParsed (Ghost t) = Unit {0}
    StatementParsed (Assert t) = Unit {0}

    pub StatementsParsed : Statements → Type 0
    StatementsParsed End = Unit {0}
    StatementsParsed (Next s ss) = StatementParsed s × StatementsParsed ss

  -- ---- items

  abbrev pub MembersParsed : Members → Type 0
  MembersParsed m = AllByRecursion (λ d. IsName d.name) m.declarators

  -- a struct has a member
  abbrev pub DeclaresSome : List Declarator → Type 0
  DeclaresSome [] = ⊥
  DeclaresSome (d ∷ ds) = Unit {0}

  abbrev pub HasMember : List Members → Type 0
  HasMember [] = ⊥
  HasMember (m ∷ ms) = DeclaresSome m.declarators

  abbrev pub HasName : Option Leaf → Type 0
  HasName None = ⊥
  HasName (Some t) = IsName t

  abbrev pub IsNamed : Parameter → Type 0
  IsNamed x = HasName x.name

  abbrev pub BodyParsed : List Parameter → Option Statements → Type 0
  BodyParsed xs None = Unit {0}
  BodyParsed xs (Some b) = AllByRecursion IsNamed xs × StatementsParsed b

  abbrev pub ItemParsed : Item → Type 0
  ItemParsed (Struct tag ms ds) = IsName tag × HasMember ms × AllByRecursion MembersParsed ms × AllDeclaredParsed ds
  ItemParsed (Variables x ds) = AllDeclaredParsed ds
  ItemParsed (Function r t xs body) = IsName t × BodyParsed xs body
  ItemParsed (Meta t) = Unit {0}
  ItemParsed (GhostVariable t) = Unit {0}

  abbrev pub ItemsParsed : List Item → Type 0
  ItemsParsed xs = AllByRecursion ItemParsed xs
