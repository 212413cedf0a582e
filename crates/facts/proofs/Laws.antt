-- The laws that specs/Laws states hold. Assumes nothing.
use Rattle.facts.proofs.Words.{inl, inr, ℕ, ◌≤◌, arith, WellFormed}
use Rattle.facts.specs.{Facts, Count, Sharers, ServiceLaws, HostLaws, BytesLaws, most_sockets}
use Rattle.facts.proofs.Unique.{call_unique, card_unique, sharers_unique, boot_unique}
use Rattle.facts.proofs.Refusals.{call_refusal_keeps, card_refusal_keeps, sharers_refusal_zero, boot_leaves, boot_success, boot_within}
use Rattle.facts.proofs.Sharing.{sharers_most}
use Rattle.facts.proofs.Formed.{fresh_formed}
use Rattle.facts.proofs.ClientsStay.{card_stays}
use Rattle.facts.proofs.ResourcesStay.{boot_stays}
use Rattle.facts.proofs.Places.{boot_most}
use Rattle.facts.proofs.Boot.{records_few, records_more, records_counted, records_same, records_before, end_more, end_whole, end_broken}
use Rattle.facts.proofs.Boot.{whole_end}
use Rattle.facts.proofs.Stays.{call_stays}

pub service_laws : ServiceLaws
service_laws =
    record {
      one_outcome = λ n F h p w. call_unique F h p w.apart n;
      refusal_keeps = λ n F h p. call_refusal_keeps F h p n;
      stays_formed = call_stays;
    }

count_most : (F : Facts) (l : ℕ) (o : Count) → WellFormed F → Sharers F l o → o.count ≤ most_sockets
count_most F l o w (inl r) = omega (arith, r.1)
count_most F l o w (inr r) = omega (arith, r.1.1, sharers_most F l w)

pub host_laws : HostLaws
host_laws =
    record {
      fresh_formed = fresh_formed;
      one_card = card_unique;
      card_refusal = card_refusal_keeps;
      card_stays = card_stays;
      one_count = sharers_unique;
      count_refusal = sharers_refusal_zero;
      count_most = count_most;
      one_boot = λ e F rs. boot_unique e F rs 0;
      boot_leaves = λ e F rs o r. boot_leaves e F rs 0 o o.place r (omega arith);
      boot_success = λ e F rs o r s. let t = boot_success e F rs 0 o r s in (t.0, omega (arith, t.1));
      boot_within = λ e F rs o r. omega (arith, boot_within e F rs 0 o r);
      boot_stays = λ e F rs. boot_stays e F rs 0;
      boot_most = boot_most;
    }

pub bytes_laws : BytesLaws
bytes_laws =
    record {
      few = λ b one few. (records_few b few, end_broken b (λ e. omega (arith, e)));
      more = λ b full. (records_more b full, end_more b full);
      counted = records_counted;
      same_list = λ b n e. (records_same b n e, end_whole b (omega (arith, e)));
      whole = λ b e. omega (arith, whole_end b e, records_counted b);
      before = records_before;
    }
