-- A run with a lane's member and wire in the place of those before.
use Rattle.std.proofs.Common.{◌≡◌, ◌≢◌, ◌∙◌, ℕ, zero, suc, Bool, cond, List, [], ◌∷◌, ◌++◌, length, refl, sym, ap, subst, inl, inr, eq-eqb, ne_eqb}
use Rattle.std.specs.Prelude.{nat_eq, slice_index_or}
use Rattle.std.proofs.lemmas.Bool.{cases_eq}
use Rattle.fr_edges.specs.Wire.{WireView}
use Rattle.hall_server.specs.Sights.{Sight}
use Rattle.script_form.specs.declared.outcome.Outcome.{Outcome}
use Rattle.session_laws.specs.Doing.{PlainClient}
use Rattle.session_laws.specs.Lanes.{LaneView}
use Rattle.session_laws.specs.Runs.{with_lane}
use Rattle.run_phases.specs.Members.{Member, member_at, no_wire, run_of, times, users_of, wire_at}
use Rattle.run_phases.proofs.Tallies.{at-here, at-other}

-- ---- wires

pub wire-here : (ws : List WireView) (w : WireView) (us : List WireView) → wire_at (suc (length ws)) (ws ++ w ∷ us) ≡ w
wire-here [] w us = refl
wire-here (x ∷ ws) w us = wire-here ws w us

place-other : (place : ℕ) (ws : List WireView) (w w' : WireView) (us : List WireView) → length ws ≢ place
    → slice_index_or (ws ++ w ∷ us) place no_wire ≡ slice_index_or (ws ++ w' ∷ us) place no_wire
place-other zero [] w w' us ne = absurd (ne refl)
place-other (suc place) [] w w' us ne = refl
place-other zero (x ∷ ws) w w' us ne = refl
place-other (suc place) (x ∷ ws) w w' us ne = place-other place ws w w' us (λ is. ne (ap suc is))

wire-other : (session : ℕ) (ws : List WireView) (w w' : WireView) (us : List WireView) → suc (length ws) ≢ session
    → wire_at session (ws ++ w ∷ us) ≡ wire_at session (ws ++ w' ∷ us)
wire-other zero ws w w' us ne = refl
wire-other (suc place) ws w w' us ne = place-other place ws w w' us (λ is. ne (ap suc is))

-- ---- the run

pub lane-there : (xs : List Member) (before now : Member) (ys : List Member) (ws : List WireView) (w w' : WireView)
    (us : List WireView) (os : List Outcome) (lane : LaneView) (user session : ℕ) → before.user ≡ user → now.user ≡ user
    → times user (users_of xs) ≡ 0 → session ≡ suc (length ws) → lane.client ≡ now.client → lane.seat ≡ now.seat
    → lane.wire ≡ w'
    → with_lane (run_of (xs ++ before ∷ ys) (ws ++ w ∷ us) os) user session lane
    ≡ run_of (xs ++ now ∷ ys) (ws ++ w' ∷ us) (os ++ lane.outcomes)
lane-there xs before now ys ws w w' us os lane user session was is none at client seat wire =
    let here = λ (v : ℕ) (same : user ≡ v).
    let e : member_at v (xs ++ now ∷ ys) ≡ now =
    at-here v now xs ys (subst (λ (u : ℕ). times u (users_of xs) ≡ 0) same none) (is ∙ same) in e in
    let other = λ (v : ℕ) (ne : user ≢ v).
    let e : member_at v (xs ++ before ∷ ys) ≡ member_at v (xs ++ now ∷ ys) =
    at-other v before xs ys (λ b. ne (sym was ∙ b)) ∙ sym (at-other v now xs ys (λ b. ne (sym is ∙ b))) in e in
    let clients = λ (v : ℕ).
    let e : cond (nat_eq user v) lane.client (member_at v (xs ++ before ∷ ys)).client
    ≡ (member_at v (xs ++ now ∷ ys)).client = elim (cases_eq user v) [
      | inl same ↦
          ap (λ (b : Bool). cond b lane.client (member_at v (xs ++ before ∷ ys)).client) (eq-eqb user v same)
          ∙ client ∙ sym (ap (λ (m : Member). m.client) (here v same))
      | inr ne ↦
          ap (λ (b : Bool). cond b lane.client (member_at v (xs ++ before ∷ ys)).client) (ne_eqb user v ne)
          ∙ ap (λ (m : Member). m.client) (other v ne)
    ] in e in
    let seats = λ (v : ℕ).
    let e : cond (nat_eq user v) lane.seat (member_at v (xs ++ before ∷ ys)).seat
    ≡ (member_at v (xs ++ now ∷ ys)).seat = elim (cases_eq user v) [
      | inl same ↦
          ap (λ (b : Bool). cond b lane.seat (member_at v (xs ++ before ∷ ys)).seat) (eq-eqb user v same)
          ∙ seat ∙ sym (ap (λ (m : Member). m.seat) (here v same))
      | inr ne ↦
          ap (λ (b : Bool). cond b lane.seat (member_at v (xs ++ before ∷ ys)).seat) (ne_eqb user v ne)
          ∙ ap (λ (m : Member). m.seat) (other v ne)
    ] in e in
    let wires = λ (s : ℕ).
    let e : cond (nat_eq session s) lane.wire (wire_at s (ws ++ w ∷ us)) ≡ wire_at s (ws ++ w' ∷ us) =
    elim (cases_eq session s) [
      | inl same ↦
          ap (λ (b : Bool). cond b lane.wire (wire_at s (ws ++ w ∷ us))) (eq-eqb session s same)
          ∙ wire ∙ sym (ap (λ (k : ℕ). wire_at k (ws ++ w' ∷ us)) (sym same ∙ at) ∙ wire-here ws w' us)
      | inr ne ↦
          ap (λ (b : Bool). cond b lane.wire (wire_at s (ws ++ w ∷ us))) (ne_eqb session s ne)
          ∙ wire-other s ws w w' us (λ b. ne (at ∙ b))
    ] in e in
    λ i. record {
      client = λ v. clients v i;
      seat = λ v. seats v i;
      wire = λ s. wires s i;
      outcomes = os ++ lane.outcomes;
    }
