pub mod UntoldStores
