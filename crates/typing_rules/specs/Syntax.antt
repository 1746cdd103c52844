-- Abstract syntax: what a concrete tree says when its levels, commas, semicolons and `const` are left out (C11 6.5 to 6.9). A chain is folded from the left.
-- All rules of the language are stated on abstract syntax. Parentheses are kept, since an expression begins with its first token. A leaf stands for its token.
use Rattle.std.specs.Prelude.{ℕ, List, Option}
use Rattle.c_words.specs.declared.word.Leaf.{Leaf}
use Rattle.c_grammar.specs.declared.types.Specifier.{Specifier}

-- ---- expressions

-- a type before its stars or its declarator, and how many stars there are
pub record Spelled : Type 0 where
  pub specifier : Specifier
  pub stars : ℕ

mutual
  pub data Expression : Type 0 where
    Name : Leaf → Expression
    Number : Leaf → Expression
    Character : Leaf → Expression
    -- `(`, what stands in it
    Paren : Leaf → Expression → Expression
    -- the function's name
    Call : Leaf → Expressions → Expression
    -- what stands before `[`, then `[`, then the index
    Index : Expression → Leaf → Expression → Expression
    -- `.` or `->`, and the member
    Member : Expression → Leaf → Leaf → Expression
    Arrow : Expression → Leaf → Leaf → Expression
    -- `++` or `--` after its operand
    Increment : Expression → Leaf → Expression
    Decrement : Expression → Leaf → Expression
    Prefix : Leaf → Expression → Expression
    -- `(`, the type, the operand
    Cast : Leaf → Spelled → Expression → Expression
    -- the word `sizeof`, and its operand or the type in its parentheses
    SizeOf : Leaf → Expression → Expression
    SizeOfType : Leaf → Spelled → Expression
    Binary : Expression → Leaf → Expression → Expression
    -- the condition, `?`, both parts
    Choose : Expression → Leaf → Expression → Expression → Expression
    -- `=` or `op=` between both sides
    Assign : Expression → Leaf → Expression → Expression

  pub data Expressions : Type 0 where
    NoMore : Expressions
    Then : Expression → Expressions → Expressions

-- ---- declarators

-- what a declarator says of its name, from the name outwards: `int *a[2]` is an array of pointers
pub data Modifier : Type 0 where
  -- `*`
  PointerTo : Modifier
  -- `[ ]` right after the name
  ArrayUnsized : Modifier
  -- `[`, a size, `]`
  ArrayOf : Expression → Modifier

pub record Declarator : Type 0 where
  pub name : Leaf
  pub modifiers : List Modifier

mutual
  pub data Initialiser : Type 0 where
    Value : Expression → Initialiser
    -- `{`, the elements
    Braces : Leaf → Initialisers → Initialiser

  pub data Initialisers : Type 0 where
    NoElement : Initialisers
    Element : Initialiser → Initialisers → Initialisers

pub record Declared : Type 0 where
  pub declarator : Declarator
  pub initialiser : Option Initialiser

-- a parameter: its first token stands for it where it has no name
pub record Parameter : Type 0 where
  pub specifier : Specifier
  pub name : Option Leaf
  pub first : Leaf
  pub modifiers : List Modifier

-- ---- statements

-- a declaration in a function
pub record Local : Type 0 where
  pub specifier : Specifier
  pub declared : List Declared

-- the first part of a `for`
pub data ForFirst : Type 0 where
  NoFirst : ForFirst
  FirstValue : Expression → ForFirst
  FirstLocal : Local → ForFirst

mutual
  pub data Statement : Type 0 where
    Nothing : Statement
    Evaluate : Expression → Statement
    Block : Statements → Statement
    Declare : Local → Statement
    If : Expression → Statement → Statement
    IfElse : Expression → Statement → Statement → Statement
    While : Expression → Statement → Statement
    Do : Statement → Expression → Statement
    For : ForFirst → Option Expression → Option Expression → Statement → Statement
    Break : Leaf → Statement
    Continue : Leaf → Statement
    Return : Leaf → Option Expression → Statement
    -- annotations of woven texts
    Ghost : Leaf → Statement
    Assert : Leaf → Statement

  pub data Statements : Type 0 where
    End : Statements
    Next : Statement → Statements → Statements

-- ---- programs

-- the declarators after one base
pub record Members : Type 0 where
  pub specifier : Specifier
  pub declarators : List Declarator

pub data Item : Type 0 where
  -- the tag, the members, what is declared
  Struct : Leaf → List Members → List Declared → Item
  Variables : Specifier → List Declared → Item
  -- the result, the name, the parameters, the body
  Function : Spelled → Leaf → List Parameter → Option Statements → Item
  -- annotations
  Meta : Leaf → Item
  GhostVariable : Leaf → Item
