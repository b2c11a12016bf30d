-- The unsupported forms.
use Rattle.std.specs.Prelude.{ℕ, ◌&&◌, ◌||◌, Bool, false, List, Option, Some, None, codes, if◌then◌else◌}
use Rattle.hv_text.specs.Trees.{Tree, word, list, Trees, none, more}
use Rattle.hv_reading.specs.declared.unsupported.Form.{Form}
use Rattle.hv_reading.specs.declared.unsupported.Form.TheVariants as forms
use Rattle.hv_reading.specs.Words.{is, is_the_word}

-- the heads of lists that are unsupported anywhere, and of those that are so in an effect
abbrev pub heads_form : Form → List ℕ → Bool
heads_form forms.Quantified w = is w (codes "forall")
heads_form forms.Anywhere w =
    is w (codes "when") || is w (codes "either") || is w (codes "increase")
    || is w (codes "decrease") || is w (codes "assign")
    || is w (codes "scale-up") || is w (codes "scale-down") || is w (codes "preference")
    || is w (codes "sortof")

-- whether the list of these members is of this kind
abbrev pub is_headed_form : Form → Trees → Bool
is_headed_form f none = false
is_headed_form f (more (word w s) ts) = heads_form f w
is_headed_form f (more (list us s) ts) = false

abbrev mutual
  -- whether an expression is a list of this kind, or holds one at any depth
  pub holds_form : Form → Tree → Bool
  holds_form f (word w s) = false
  holds_form f (list ts s) = is_headed_form f ts || is_form_list f ts

  -- whether one of these is or does
  pub is_form_list : Form → Trees → Bool
  is_form_list f none = false
  is_form_list f (more t ts) = holds_form f t || is_form_list f ts

-- the first member
abbrev pub first : Trees → Option Tree
first none = None
first (more t ts) = Some t

-- the member after the first word `:effect`
abbrev pub after_effect : Trees → Option Tree
after_effect none = None
after_effect (more t ts) = if is_the_word (codes ":effect") t then first ts else after_effect ts

-- whether there is a member and it is a list of this kind, or holds one
abbrev pub holds_at : Form → Option Tree → Bool
holds_at f None = false
holds_at f (Some t) = holds_form f t

-- whether a section with this head and these members behind it holds an unsupported form: one
-- of those that are so anywhere, or in an action a `forall` in the member after its first
-- word `:effect`
abbrev pub has_unsupported : List ℕ → Trees → Bool
has_unsupported w ts =
    is_form_list forms.Anywhere ts
    || (is w (codes ":action") && holds_at forms.Quantified (after_effect ts))
