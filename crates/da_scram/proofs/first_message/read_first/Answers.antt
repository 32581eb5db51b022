use Rattle.std.proofs.Common.{◌≡◌, Some, option_map, subst}
use Rattle.da_scram.specs.Cuts.{AreNames}
use Rattle.da_scram.specs.declared.first_message.Names.{Names}
use Rattle.da_scram.proofs.FirstReading.{reads_first}
use Rattle.da_scram.proofs.first_message.read_first.Goals as goal

pub returns : goal.returns
returns c =
    let names = subst (λ found. AreNames c.in-Some.first.authzid.now c.in-Some.first.name.now (option_map (λ (n : Names). (n.authzid, n.name)) found)) c.in-Some-2.is (c.in_ok-read_names.ensures {u = tt}) in
    reads_first _ _ _ _ _ _ _ _ c.in-Some.ensures names.0 names.1
