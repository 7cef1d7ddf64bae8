-- What the files beside this one say of a node: its records and its disks, the orders that it takes, and its answers.
pub use Rattle.node_rules.specs.Watcher.{due_for_kept}
