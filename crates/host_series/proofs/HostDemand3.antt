-- A host's calls, each handed the bytes that the one before left, are a series of demand 3.
use mathlib.Core.Bool.{Bool, true, false, true≢false}
use mathlib.Core.List.{List, [], ◌∷◌}
use mathlib.Core.Path.{◌≡◌, refl, sym, ap, subst, ◌∙◌}
use Rattle.layout.specs.StoredForm.{record_in, holds_record}
use Rattle.series.specs.HandedOn.{InSeries, own, other, left_by, left_by_all}
use Rattle.series.specs.Machine.{Admits}
use Rattle.series.specs.Series.{gave_state, Series}
use Rattle.series.proofs.Theorems.{stays, demand3}
use Rattle.host_series.specs.Host.{Host}
use Rattle.host_series.specs.HostSeries.{ByteState, state_in, RecordCall, host_machine, crossed_state, HostSeries, if_held, record_calls, KeepsBytes, Crosses, HostDemand3}
use Rattle.host_series.proofs.HostCalls.{MeetsHost, left_holds, keeps_bytes, host_keeps}

module _ (host : Host) (m : MeetsHost host) where
  -- the record calls among them are a series, that leaves the record in the bytes that they leave
  abbrev Follows : host.kind.Setting → List (InSeries (RecordCall host)) → List (InSeries host.Call) → ByteState → Type 0
  Follows setting rs cs s =
      Series (host_machine host setting) rs (state_in s)
      × (state_in (left_by_all (crossed_state host) cs s) ≡ left_by_all (gave_state (host_machine host setting)) rs (state_in s))

  left_in : (setting : host.kind.Setting) (series_record series_ram : Bool) (c : RecordCall host) (s : ByteState)
      → state_in (left_by (crossed_state host) (other series_record series_ram c.call) s)
      ≡ left_by (gave_state (host_machine host setting)) (other series_record series_ram c) (state_in s)
  left_in setting true series_ram c s = refl
  left_in setting false series_ram c s = refl

  -- a call whose bytes hold no record leaves what stands
  left_same : (series_record series_ram : Bool) (c : host.Call) (s : ByteState) → KeepsBytes host c
      → (series_record ≡ true → (host.lent c).bytes ≡ s.rec) → (series_ram ≡ true → (host.lent c).ram ≡ s.ram)
      → left_by (crossed_state host) (other series_record series_ram c) s ≡ s
  left_same series_record series_ram c s k r n =
      let rec = stays series_record s.rec (host.crossed c).bytes (λ t. rw k (r t)) in
      let ram = stays series_ram s.ram (host.crossed c).ram (λ t. rw k (n t)) in
      λ i. record { rec = rec i; ram = ram i }

  still_holds : (series_record series_ram : Bool) (c : RecordCall host) (s : ByteState) → holds_record s.rec ≡ true
      → holds_record (left_by (crossed_state host) (other series_record series_ram c.call) s).rec ≡ true
  still_holds true series_ram c s t = left_holds host m c
  still_holds false series_ram c s t = t

  other_holds : (series_record series_ram : Bool) (c : host.Call) (s : ByteState) → holds_record s.rec ≡ true
      → (series_record ≡ true → (host.lent c).bytes ≡ s.rec) → (series_ram ≡ true → (host.lent c).ram ≡ s.ram)
      → (t : Bool) → holds_record (host.lent c).bytes ≡ t → holds_record (left_by (crossed_state host) (other series_record series_ram c) s).rec ≡ true
  other_holds series_record series_ram c s h r n true e = still_holds series_record series_ram (record { call = c; holds = e }) s h
  other_holds series_record series_ram c s h r n false e =
      ap (λ (x : ByteState). holds_record x.rec) (left_same series_record series_ram c s (keeps_bytes host m c e) r n) ∙ h

  follows : (setting : host.kind.Setting) (cs : List (InSeries host.Call)) (s : ByteState) → holds_record s.rec ≡ true
      → HostSeries host setting cs s
      → Crosses host cs s × Follows setting (record_calls host cs) cs s
  follows setting [] s t h = (t, (tt, refl))
  follows setting (own c ∷ cs) s t h =
      let holds : holds_record (host.lent c).bytes ≡ true = ap (λ (x : ByteState). holds_record x.rec) h.0.1 ∙ t in
      let rest = follows setting cs (crossed_state host c) (left_holds host m (record { call = c; holds = holds })) h.1 in
      ((t, keeps_bytes host m c, rest.0), go (holds_record (host.lent c).bytes) refl holds rest.1)
    where
      go : (b : Bool) (e : holds_record (host.lent c).bytes ≡ b) → b ≡ true → Follows setting (record_calls host cs) cs (crossed_state host c)
          → Follows setting (if_held host c b e own (record_calls host cs)) (own c ∷ cs) s
      go true e q rest = (((h.0.0, ap state_in h.0.1), rest.0), rest.1)
      go false e q rest = absurd (true≢false (sym q))
  follows setting (other series_record series_ram c ∷ cs) s t h =
      let rest = follows setting cs (left_by (crossed_state host) (other series_record series_ram c) s)
      (other_holds series_record series_ram c s t h.0.1 h.0.2 (holds_record (host.lent c).bytes) refl) h.1 in
      ((t, keeps_bytes host m c, rest.0), go (holds_record (host.lent c).bytes) refl rest.1)
    where
      go : (b : Bool) (e : holds_record (host.lent c).bytes ≡ b)
          → Follows setting (record_calls host cs) cs (left_by (crossed_state host) (other series_record series_ram c) s)
          → Follows setting (if_held host c b e (other series_record series_ram) (record_calls host cs)) (other series_record series_ram c ∷ cs) s
      go true e rest =
          let left = left_in setting series_record series_ram (record { call = c; holds = e }) s in (
            ((h.0.0 e, λ q. ap record_in (h.0.1 q), h.0.2), subst (Series (host_machine host setting) (record_calls host cs)) left rest.0),
            rest.1 ∙ ap (left_by_all (gave_state (host_machine host setting)) (record_calls host cs)) left,
          )
      go false e rest =
          let same = ap state_in (left_same series_record series_ram c s (keeps_bytes host m c e) h.0.1 h.0.2) in (
            subst (Series (host_machine host setting) (record_calls host cs)) same rest.0,
            rest.1 ∙ ap (left_by_all (gave_state (host_machine host setting)) (record_calls host cs)) same,
          )

  -- from bytes that hold a record which isn't refused
  pub host_demand3 : (setting : host.kind.Setting) (start : ByteState) → holds_record start.rec ≡ true
      → Admits (host_machine host setting) (record_in start.rec) start.ram
      → (calls : List (InSeries host.Call)) → HostSeries host setting calls start → HostDemand3 host setting calls start
  host_demand3 setting start holds a calls h =
      let series = follows setting calls start holds h in
      let claim = demand3 (host_machine host setting) (host_keeps host m setting) (record_calls host calls) (state_in start) a series.1.0 in
      record { crosses = series.0; demand3 = claim; leaves = series.1.1 ∙ claim.leaves }
