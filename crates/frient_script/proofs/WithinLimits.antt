-- The generated script of each number is within the limits of scripts.
use Rattle.std.proofs.Common.{◌≡◌, ◌∙◌, ℕ, ◌≤◌, leb, ltb, eqb, Bool, true, false, not, List, [], ◌∷◌, length, Ok, refl, arith}
use Rattle.std.specs.Prelude.{◌&&◌, sum_by, ⊤}
use Rattle.std.specs.List.{All, AllByRecursion, IsDistinct, list_all}
use Rattle.std.specs.Cmp.{first_so, second_so}
use Rattle.std.specs.Fmt.{digits}
use Rattle.std.proofs.lemmas.Bool.{leb-true, not-true}
use Rattle.std.proofs.lemmas.List.Elements.{All-nil, All-cons}
use Rattle.fr_bytes.specs.Parts.{IsWithin}
use Rattle.op_types.specs.declared.roles.TheConstants.{READER, WRITER}
use Rattle.script_read.specs.declared.script.Command.{Command}
use Rattle.script_read.specs.declared.script.Command.TheVariants.{Post, Read, ReadAll, Admit, Remove}
use Rattle.script_read.specs.declared.script.ScriptUser.{ScriptUser}
use Rattle.script_read.specs.declared.script.ScriptWall.{ScriptWall}
use Rattle.script_read.specs.declared.script.ScriptSession.{ScriptSession}
use Rattle.script_read.specs.Fields.{is_printable}
use Rattle.script_read.specs.Known.{all_known, both_known, command_known, owner_known, session_known, line_known}
use Rattle.script_read.specs.Writes.{signs_enough, overspender, overspends}
use Rattle.script_read.specs.Limits.{IsUser, IsWall, HasRanges, IsSession, IsPhase, AreUsers, AreWalls, ArePhases, AreLines, IsScript, HasLineRanges, commands_in, same_user, same_wall, same_session}
use Rattle.script_read.proofs.ListedNumbers.{known_holds, signed_holds}
use Rattle.script_form.specs.Report.{labelled}
use Rattle.script_form.specs.Generated.{user_made, wall_made, admissions, look, looking, post_text, posts, posting, generated_phases, generated_of}

-- ---- tests of ranges

abbrev within : ℕ → ℕ → ℕ → Bool
within low high n = leb low n && leb n high

is_within : (low high n : ℕ) → within low high n ≡ true → IsWithin low high n
is_within low high n so = (leb-true low n (first_so _ _ so), leb-true n high (second_so _ _ so))

all_by : {A : Type 0} (P : A → Type 0) (test : A → Bool) → ((x : A) → test x ≡ true → P x) → (xs : List A)
    → list_all test xs ≡ true → All P xs
all_by P test h [] so = All-nil P
all_by P test h (x ∷ xs) so = All-cons P x xs (h x (first_so _ _ so)) (all_by P test h xs (second_so _ _ so))

abbrev differs : {A : Type 0} → (A → A → Bool) → List A → Bool
differs same [] = true
differs same (x ∷ xs) = list_all (λ y. not (same x y)) xs && differs same xs

none_same : {A : Type 0} (same : A → A → Bool) (x : A) (xs : List A) → list_all (λ y. not (same x y)) xs ≡ true
    → AllByRecursion (λ y. same x y ≡ false) xs
none_same same x [] so = tt
none_same same x (y ∷ ys) so = (not-true _ (first_so _ _ so), none_same same x ys (second_so _ _ so))

is_distinct : {A : Type 0} (same : A → A → Bool) (xs : List A) → differs same xs ≡ true → IsDistinct same xs
unfolding IsDistinct
is_distinct same [] so = tt
is_distinct same (x ∷ xs) so = (none_same same x xs (first_so _ _ so), is_distinct same xs (second_so _ _ so))

-- ---- tests of the tables' elements

abbrev user_fits : ScriptUser → Bool
user_fits u = within 1 65535 u.user && (within 5 6 u.lms && within 1 4 u.ots)

is_user : (u : ScriptUser) → user_fits u ≡ true → IsUser u
is_user u so = record {
  number = is_within 1 65535 u.user (first_so _ _ so);
  lms = is_within 5 6 u.lms (first_so _ _ (second_so _ _ so));
  ots = is_within 1 4 u.ots (second_so _ _ (second_so _ _ so));
}

abbrev wall_fits : ScriptWall → Bool
wall_fits w = within 1 65535 w.wall && (within 1 65535 w.owner && (leb w.f 31 && (within 1 6 w.depth && within 1 4 w.ots)))

is_wall : (w : ScriptWall) → wall_fits w ≡ true → IsWall w
is_wall w so =
    let behind = second_so _ _ (second_so _ _ so) in
    record {
      number = is_within 1 65535 w.wall (first_so _ _ so);
      owner = is_within 1 65535 w.owner (first_so _ _ (second_so _ _ so));
      f = leb-true w.f 31 (first_so _ _ behind);
      depth = is_within 1 6 w.depth (first_so _ _ (second_so _ _ behind));
      ots = is_within 1 4 w.ots (second_so _ _ (second_so _ _ behind));
    }

abbrev command_fits : Command → Bool
command_fits (Post wall text) = within 1 65535 wall && (leb (length text) 1024 && list_all is_printable text)
command_fits (Read wall) = within 1 65535 wall
command_fits (ReadAll wall) = within 1 65535 wall
command_fits (Admit wall user role) = within 1 65535 wall && (within 1 65535 user && within READER WRITER role)
command_fits (Remove wall user) = within 1 65535 wall && within 1 65535 user

has_ranges : (c : Command) → command_fits c ≡ true → HasRanges c
has_ranges (Post wall text) so =
    (is_within 1 65535 wall (first_so _ _ so), (leb-true (length text) 1024 (first_so _ _ (second_so _ _ so)), second_so _ _ (second_so _ _ so)))
has_ranges (Read wall) so = is_within 1 65535 wall so
has_ranges (ReadAll wall) so = is_within 1 65535 wall so
has_ranges (Admit wall user role) so =
    (is_within 1 65535 wall (first_so _ _ so), is_within 1 65535 user (first_so _ _ (second_so _ _ so)), is_within READER WRITER role (second_so _ _ (second_so _ _ so)))
has_ranges (Remove wall user) so = (is_within 1 65535 wall (first_so _ _ so), is_within 1 65535 user (second_so _ _ so))

abbrev session_fits : ScriptSession → Bool
session_fits session = within 1 65535 session.user && list_all command_fits session.commands

is_session : (session : ScriptSession) → session_fits session ≡ true → IsSession session
is_session session so = record {
  user = is_within 1 65535 session.user (first_so _ _ so);
  commands = all_by HasRanges command_fits has_ranges session.commands (second_so _ _ so);
}

abbrev phase_fits : List ScriptSession → Bool
phase_fits sessions = leb (length sessions) 16 && (list_all session_fits sessions && differs same_session sessions)

is_phase : (sessions : List ScriptSession) → phase_fits sessions ≡ true → IsPhase sessions
is_phase sessions so = record {
  few = leb-true (length sessions) 16 (first_so _ _ so);
  all = all_by IsSession session_fits is_session sessions (first_so _ _ (second_so _ _ so));
  distinct = is_distinct same_session sessions (second_so _ _ (second_so _ _ so));
}

-- ---- the generated script's

users_fit : (number : ℕ) → (list_all user_fits (generated_of number).users && differs same_user (generated_of number).users) ≡ true
unfolding generated_of user_made
users_fit number = refl

walls_fit : (number : ℕ) → (list_all wall_fits (generated_of number).walls && differs same_wall (generated_of number).walls) ≡ true
unfolding generated_of wall_made
walls_fit number = refl

phases_fit : (number : ℕ) → list_all phase_fits (generated_of number).phases ≡ true
unfolding generated_of generated_phases admissions looking look posting posts post_text labelled digits
phases_fit number = refl

known : (number : ℕ) → all_known (generated_of number) ≡ Ok tt
unfolding all_known both_known command_known session_known owner_known generated_of user_made wall_made generated_phases admissions looking look posting posts
known number = refl

signed : (number : ℕ) → signs_enough (generated_of number) ≡ Ok tt
unfolding signs_enough overspender overspends generated_of user_made generated_phases admissions looking look posting posts
signed number = refl

few_users : (number : ℕ) → within 1 32 (length (generated_of number).users) ≡ true
unfolding generated_of
few_users number = refl

few_walls : (number : ℕ) → within 1 8 (length (generated_of number).walls) ≡ true
unfolding generated_of
few_walls number = refl

few_phases : (number : ℕ) → leb (length (generated_of number).phases) 64 ≡ true
unfolding generated_of generated_phases
few_phases number = refl

few_commands : (number : ℕ) → leb (sum_by commands_in (generated_of number).phases) 2048 ≡ true
unfolding generated_of generated_phases admissions looking look posting posts
few_commands number = refl

no_lines : (number : ℕ) → (generated_of number).tamper ≡ []
unfolding generated_of
no_lines number = refl

are_lines : (number : ℕ) → AreLines (generated_of number).tamper
are_lines number = rw (no_lines number) (record { few = omega arith; all = All-nil HasLineRanges })

pub within_limits : (number : ℕ) → IsScript (generated_of number)
within_limits number =
    let s = generated_of number in
    let listed = (known_holds s).at tt (known number) in
    record {
      users = record {
        few = is_within 1 32 (length s.users) (few_users number);
        all = all_by IsUser user_fits is_user s.users (first_so _ _ (users_fit number));
        distinct = is_distinct same_user s.users (second_so _ _ (users_fit number));
      };
      walls = record {
        few = is_within 1 8 (length s.walls) (few_walls number);
        all = all_by IsWall wall_fits is_wall s.walls (first_so _ _ (walls_fit number));
        distinct = is_distinct same_wall s.walls (second_so _ _ (walls_fit number));
      };
      phases = record {
        few = leb-true (length s.phases) 64 (few_phases number);
        all = all_by IsPhase phase_fits is_phase s.phases (phases_fit number);
        room = leb-true (sum_by commands_in s.phases) 2048 (few_commands number);
      };
      tamper = are_lines number;
      owners = listed.0;
      sessions = listed.1;
      lines = listed.2;
      signed = (signed_holds s).at tt (signed number);
    }
