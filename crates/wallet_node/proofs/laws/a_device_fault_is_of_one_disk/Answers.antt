use Rattle.wallet_node.proofs.OneDisk.{notes_faults, leaves_faults, openings_fail, inits_fail}
use Rattle.wallet_node.proofs.laws.a_device_fault_is_of_one_disk.Goals as goal

pub returns : goal.returns
returns g c =
    let told = g.D.Disk.told in
    let plan = g.D.Disk.plan in
    let faults = g.D.Disk.faults in
    record {
      notes = notes_faults told plan faults _;
      leaves = leaves_faults told plan faults _;
      openings = openings_fail told plan faults;
      inits = inits_fail told plan faults;
    }
