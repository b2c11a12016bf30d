-- What the values of the code say.
use Rattle.std.specs.Prelude.{ℕ, List, map}
use Rattle.hv_text.specs.Bytes.{lower, bytes_at}
use Rattle.hv_text.specs.Names.{text_of}
use Rattle.hv_text.specs.declared.span.Span.{Span}
use Rattle.hv_syntax.specs.declared.word.Placed.{Placed}
use Rattle.hv_syntax.specs.declared.term.TermText.{TermText}
use Rattle.hv_syntax.specs.declared.term.TermText.TheVariants as terms
use Rattle.hv_syntax.specs.declared.term.AtomText.{AtomText}
use Rattle.hv_syntax.specs.declared.term.LentAtom.{LentAtom}
use Rattle.hv_syntax.specs.declared.typed.TypeText.{TypeText}
use Rattle.hv_syntax.specs.declared.typed.TypeText.TheVariants as types
use Rattle.hv_syntax.specs.declared.typed.TypedText.{TypedText}
use Rattle.hv_syntax.specs.declared.variable.VariableText.{VariableText}
use Rattle.hv_syntax.specs.declared.formula.FormulaText.{FormulaText, fold-FormulaText}
use Rattle.hv_syntax.specs.declared.formula.FormulaText.TheOpen.{FormulaText-F}
use Rattle.hv_syntax.specs.declared.literal.LiteralText.{LiteralText}
use Rattle.hv_syntax.specs.declared.literal.LentLiteral.{LentLiteral}
use Rattle.hv_syntax.specs.declared.ground.GroundLiteral.{GroundLiteral}
use Rattle.hv_syntax.specs.declared.effect.ItemText.{ItemText, fold-ItemText}
use Rattle.hv_syntax.specs.declared.effect.ItemText.TheOpen.{ItemText-F}
use Rattle.hv_syntax.specs.declared.effect.EffectText.{EffectText}
use Rattle.hv_syntax.specs.Values.{WordAt, word_at, Term, constant, variable, Atom, atom_with, TypeOf, no_type, of_type, Typed, typed, Variable, Formula, holds, and, or, not, imply, forall, exists, equal, formulas_of, Literal, literal, Effect, effect, Item, becomes, for_each}

abbrev pub word_view : Placed → WordAt
word_view p = word_at (text_of p.name) p.span

-- the word that a text has at a place
abbrev pub word_in : List ℕ → Span → WordAt
word_in text s = word_at (lower (bytes_at text s)) s

abbrev pub term_view : TermText → Term
term_view (terms.Constant p) = constant (word_view p)
term_view (terms.Variable p) = variable (word_view p)

abbrev pub atom_view : AtomText → Atom
atom_view a = atom_with (word_view a.symbol) (map term_view a.terms.items)

abbrev pub lent_atom_view : LentAtom → Atom
lent_atom_view a = atom_with (word_view a.symbol) (map term_view a.terms.now)

abbrev pub type_view : TypeText → TypeOf
type_view types.Object = no_type
type_view (types.Named p) = of_type (word_view p)

abbrev pub typed_view : TypedText → Typed
typed_view t = typed (type_view t.of) (word_view t.name)

abbrev pub variable_view : VariableText → Variable
variable_view v = typed (map word_view v.types.value.items) (word_view v.name)

-- one level, with each formula inside already seen
abbrev pub formula_step : FormulaText-F Formula → Formula
formula_step (FormulaText-F.Holds a) = holds (atom_view a)
formula_step (FormulaText-F.And v) = and (formulas_of v.items)
formula_step (FormulaText-F.Or v) = or (formulas_of v.items)
formula_step (FormulaText-F.Not f) = not f.value
formula_step (FormulaText-F.Imply f g) = imply f.value g.value
formula_step (FormulaText-F.Forall vs f) = forall (map variable_view vs.items) f.value
formula_step (FormulaText-F.Exists vs f) = exists (map variable_view vs.items) f.value
formula_step (FormulaText-F.Equal s t) = equal (term_view s) (term_view t)

abbrev pub formula_view : FormulaText → Formula
formula_view = fold-FormulaText Formula formula_step

abbrev pub literal_view : LiteralText → Literal
literal_view l = literal l.is_positive (atom_view l.atom)

abbrev pub lent_literal_view : LentLiteral → Literal
lent_literal_view l = literal l.is_positive (lent_atom_view l.atom)

-- a word as a term
abbrev pub constant_view : Placed → Term
constant_view p = constant (word_view p)

abbrev pub ground_literal_view : GroundLiteral → Literal
ground_literal_view l =
    literal l.is_positive (atom_with (word_view l.symbol) (map constant_view l.names.now))

-- one level, with each item inside already seen
abbrev pub item_step : ItemText-F Item → Item
item_step (ItemText-F.Literal l) = becomes (literal_view l)
item_step (ItemText-F.Forall vs v) = for_each (map variable_view vs.items) (effect v.items)

abbrev pub item_view : ItemText → Item
item_view = fold-ItemText Item item_step

abbrev pub effect_view : EffectText → Effect
effect_view e = effect (map item_view e.items.items)
