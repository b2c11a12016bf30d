-- Sections: what heads them, and which heads are forms that are left out.
use Rattle.std.specs.Prelude.{ℕ, ◌||◌, Bool, false, List, [], ◌∷◌, Option, Some, None, codes}
use Rattle.hv_text.specs.Trees.{Tree, word, list, Trees, none, more}
use Rattle.hv_text.specs.declared.span.Span.{Span}
use Rattle.hv_reading.specs.Words.{is}

-- the word that heads a list, and the members behind it
abbrev pub headed : Tree → Option (List ℕ × Trees)
headed (word w s) = None
headed (list none s) = None
headed (list (more (word w p) ts) s) = Some (w, ts)
headed (list (more (list us p) ts) s) = None

-- whether this is the word that heads
abbrev pub is_head : List ℕ → Option (List ℕ × Trees) → Bool
is_head v None = false
is_head v (Some (w, ts)) = is w v

-- whether this word heads the list
abbrev pub is_headed_by : List ℕ → Tree → Bool
is_headed_by v t = is_head v (headed t)

-- whether one of these is a list that this word heads
abbrev pub occurs : List ℕ → List Tree → Bool
occurs v [] = false
occurs v (t ∷ ts) = is_headed_by v t || occurs v ts

-- the heads of sections that no kind of text may have
abbrev pub is_unsupported : List ℕ → Bool
is_unsupported w =
    is w (codes ":functions") || is w (codes ":durative-action") || is w (codes ":derived")
    || is w (codes ":metric") || is w (codes ":constraints")

-- where a fault of the whole text stands
abbrev pub at_start : Span
at_start = record { start = 0; past = 0 }
