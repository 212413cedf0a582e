-- What the contracts of `irq_services` cite. Assumes nothing.
pub mod Granting
