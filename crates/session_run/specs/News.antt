-- What a client makes of a reply, as the outcome of a command tells it.
use Rattle.std.specs.Prelude.{◌≡◌, ℕ, ◌+◌, ◌≤◌, Bool, false, List, [], length}
use Rattle.std.specs.List.{AllByRecursion}
use Rattle.op_types.specs.declared.op.Leaf.{Leaf}
use Rattle.op_types.specs.Spelling.{IsLeaf}
use Rattle.script_form.specs.declared.outcome.CommandEnd.{CommandEnd}
use Rattle.script_form.specs.declared.outcome.CommandEnd.TheVariants as ends
use Rattle.script_form.specs.declared.outcome.Shown.{Shown}
use Rattle.client_core.specs.declared.news.News.{News}
use Rattle.client_core.specs.declared.news.News.TheVariants.{Same, Took, Refused}
use Rattle.client_core.specs.Sides.{SideView}
use Rattle.session_laws.specs.Doing.{needs_keys, shown_from}

-- What is shown are leaves of the wall, no more than there are positions.
pub record AreNews (wall from size : ℕ) (leaves : List Leaf) : Type 0 where
  pub spelled : AllByRecursion IsLeaf leaves
  pub few : from + length leaves ≤ size
  pub on : AllByRecursion (λ (l : Leaf). l.op.wall ≡ wall) leaves

abbrev pub IsNews : ℕ → News → Type 0
IsNews wall (Same size) = Unit {0}
IsNews wall (Took size from leaves) = AreNews wall from size leaves
IsNews wall (Refused cause number) = Unit {0}

-- how the command ends
abbrev pub news_end : News → CommandEnd
news_end (Same size) = ends.Same size
news_end (Took size from leaves) = ends.Accepted size from
news_end (Refused cause number) = ends.Refused cause number

-- what it shows, by the keys of a side
abbrev pub news_shown : SideView → News → List Shown
news_shown s (Same size) = []
news_shown s (Took size from leaves) = shown_from s from leaves
news_shown s (Refused cause number) = []

-- whether it asks for keys
abbrev pub news_keys : SideView → News → Bool
news_keys s (Same size) = needs_keys s
news_keys s (Took size from leaves) = needs_keys s
news_keys s (Refused cause number) = false
