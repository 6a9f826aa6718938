-- The next session of a phase can get its lane.
use Rattle.std.proofs.Common.{◌≡◌, ◌∙◌, ℕ, zero, suc, ◌+◌, ◌<◌, ◌≤◌, List, [], ◌∷◌, ◌++◌, length, length-append, map, take, drop, refl, sym, ap, subst, arith, add-one}
use Rattle.std.specs.Prelude.{slice_index_or}
use Rattle.std.specs.List.{AllByRecursion, AllZip}
use Rattle.std.proofs.lemmas.List.{map-append}
use Rattle.std.proofs.lemmas.Slice.Zip.{AllZip-long}
use Rattle.fr_digest.specs.Digest.{Digest}
use Rattle.hall_server.specs.declared.server.Server.{Server}
use Rattle.hall_server.specs.Seating.{walls_of}
use Rattle.hall_server.specs.Sights.{user_of}
use Rattle.script_read.specs.declared.script.ScriptSession.{ScriptSession}
use Rattle.session_run.specs.declared.lane.Lane.{Lane}
use Rattle.run_phases.specs.declared.running.Running.{Running}
use Rattle.run_phases.specs.Members.{Member, times, users_of}
use Rattle.run_phases.specs.Phases.{AreMembers, Entered, IsLaneOf, IsPhase, IsSession, lane_member, members_of}
use Rattle.run_phases.proofs.Boarding.{even-of, users-members}
use Rattle.run_phases.proofs.Finding.{open-at}
use Rattle.run_phases.proofs.Tallies.{tally-append, times-append, times-here, times-more}

-- ---- lists by a place

pub each-at : {A : Type 0} (P : A → Type 0) (xs : List A) (i : ℕ) (d : A) → AllByRecursion P xs → i < length xs
    → P (slice_index_or xs i d)
each-at P [] i d all lt = absurd (omega (lt, arith))
each-at P (x ∷ xs) zero d all lt = all.0
each-at P (x ∷ xs) (suc i) d all lt = each-at P xs i d all.1 (omega (lt, arith))

take-suc : {A : Type 0} (xs : List A) (i : ℕ) (x : A) → i < length xs → x ≡ slice_index_or xs i x
    → take (suc i) xs ≡ take i xs ++ x ∷ []
take-suc [] i x lt is = absurd (omega (lt, arith))
take-suc {A} (y ∷ xs) zero x lt is = ap (λ (h : A). h ∷ []) (sym is)
take-suc {A} (y ∷ xs) (suc i) x lt is = ap (λ (l : List A). y ∷ l) (take-suc xs i x (omega (lt, arith)) is)

pub take-more : {A : Type 0} (xs : List A) (i : ℕ) (x : A) → i < length xs → x ≡ slice_index_or xs i x
    → take (i + 1) xs ≡ take i xs ++ x ∷ []
take-more {A} xs i x lt is = ap (λ (n : ℕ). take n xs) (add-one i) ∙ take-suc xs i x lt is

pub take-long : {A : Type 0} (xs : List A) (i : ℕ) → i ≤ length xs → length (take i xs) ≡ i
take-long xs zero le = refl
take-long [] (suc i) le = absurd (omega (le, arith))
take-long (x ∷ xs) (suc i) le = ap suc (take-long xs i (omega (le, arith)))

pub take-whole : {A : Type 0} (xs : List A) (i : ℕ) → length xs ≤ i → take i xs ≡ xs
take-whole [] zero le = refl
take-whole [] (suc i) le = refl
take-whole (x ∷ xs) zero le = absurd (omega (le, arith))
take-whole {A} (x ∷ xs) (suc i) le = ap (λ (l : List A). x ∷ l) (take-whole xs i (omega (le, arith)))

-- ---- lanes

lane-users : {D W : Type 0} (d : Digest) (server : Server D) (ss : List ScriptSession) (ls : List (Lane D W))
    → AllZip (IsLaneOf d server) ss ls
    → users_of (map (λ (l : Lane D W). lane_member l) ls) ≡ map (λ (s : ScriptSession). s.user) ss
lane-users d server [] [] each = refl
lane-users d server [] (l ∷ ls) each = absurd each
lane-users d server (s ∷ ss) [] each = absurd each
lane-users d server (s ∷ ss) (l ∷ ls) each = λ i. each.0.user_is i ∷ lane-users d server ss ls each.1 i

module _ {D W : Type 0} (d : Digest) (server : Server D) (sessions : List ScriptSession) (before now : Running D W)
    (lanes : List (Lane D W)) (i : ℕ) (s : ScriptSession)
    (are : AreMembers d server before.clients.items before.seats.items)
    (p : IsPhase (walls_of server) (map user_of before.seats.items) sessions)
    (e : Entered d server (take i sessions) before now lanes) (lt : i < length sessions)
    (is : s ≡ slice_index_or sessions i s) where
  pub next-known : 1 ≤ times s.user (map user_of now.seats.items)
  next-known =
      let u = s.user in
      let session : IsSession (walls_of server) (map user_of before.seats.items) s =
      subst (IsSession (walls_of server) (map user_of before.seats.items)) (sym is)
      (each-at (IsSession (walls_of server) (map user_of before.seats.items)) sessions i s p.each lt) in
      let gone = map (λ (l : Lane D W). lane_member l) lanes in
      let a : times u (users_of (members_of before)) ≡ times u (map user_of before.seats.items) =
      ap (times u) (users-members before.clients.items before.seats.items
      (even-of before.clients.items before.seats.items are.same)) in
      let b = tally-append u (members_of now) gone in
      let f : times u (users_of gone) ≡ times u (map (λ (t : ScriptSession). t.user) (take i sessions)) =
      ap (times u) (lane-users d server (take i sessions) lanes e.each) in
      let h : times u (users_of (members_of now)) ≡ times u (map user_of now.seats.items) =
      ap (times u) (users-members now.clients.items now.seats.items
      (even-of now.clients.items now.seats.items e.left.same)) in
      let cut : times u (map (λ (t : ScriptSession). t.user) sessions)
      ≡ times u (map (λ (t : ScriptSession). t.user) (take i sessions))
      + times u (u ∷ map (λ (t : ScriptSession). t.user) (drop (suc i) sessions)) =
      ap (λ (l : List ScriptSession). times u (map (λ (t : ScriptSession). t.user) l)) (open-at sessions i s lt is)
      ∙ ap (times u) (map-append (λ (t : ScriptSession). t.user) (take i sessions) (s ∷ drop (suc i) sessions))
      ∙ times-append u (map (λ (t : ScriptSession). t.user) (take i sessions))
      (u ∷ map (λ (t : ScriptSession). t.user) (drop (suc i) sessions)) in
      let more = times-more u u (map (λ (t : ScriptSession). t.user) (drop (suc i) sessions)) in
      let one = times-here u u refl in
      let most = p.apart u in
      let known = session.known in
      let counted = e.moved.counted u in
      omega (a, b, f, h, cut, more, one, most, known, counted, arith)

  pub next-even : length now.clients.items ≡ length now.seats.items
  next-even = even-of now.clients.items now.seats.items e.left.same

  pub next-wire : length sessions ≤ length before.wires.items → 1 ≤ length now.wires.items
  next-wire room =
      let long : length lanes ≡ length (take i sessions) =
      AllZip-long (IsLaneOf d server) (take i sessions) lanes e.each in
      let count = take-long sessions i (omega (lt, arith)) in
      let wires : length before.wires.items ≡ length (map (λ (l : Lane D W). l.wire) lanes ++ now.wires.items) =
      ap (λ (ws : List W). length ws) e.wires in
      let parts : length (map (λ (l : Lane D W). l.wire) lanes ++ now.wires.items)
      ≡ length (map (λ (l : Lane D W). l.wire) lanes) + length now.wires.items =
      length-append (map (λ (l : Lane D W). l.wire) lanes) now.wires.items in
      let same : length (map (λ (l : Lane D W). l.wire) lanes) ≡ length lanes = same-length lanes in
      omega (long, count, wires, parts, same, room, lt, arith)
    where
      same-length : (ls : List (Lane D W)) → length (map (λ (l : Lane D W). l.wire) ls) ≡ length ls
      same-length [] = refl
      same-length (l ∷ ls) = ap suc (same-length ls)
