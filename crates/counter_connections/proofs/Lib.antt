mod CallLemmas
mod ConnectionLemmas
mod PortLemmas
